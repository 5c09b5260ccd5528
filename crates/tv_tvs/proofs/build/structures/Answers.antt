use Rattle.std.proofs.Common.{◌∙◌}
use Rattle.std.proofs.lemmas.List.Elements.{All-push}
use Rattle.tv_tvs.specs.Targets.{IsRead}
use Rattle.tv_tvs.specs.Views.{struct_tree}
use Rattle.tv_tvs.proofs.Building.{structs_more}
use Rattle.tv_tvs.proofs.build.structures.Goals as goal

pub loop-tree-preserved : goal.loop-tree-preserved
loop-tree-preserved c =
    rw c.in_ok-push.ensures.items
    (record {
      left = c.loop-tree.invariant.left
          ∙ structs_more c.args.vocab.now.preds (struct_tree c.args.bytes.now) c.args.trees.now c.loop-tree.tree-index c.tree-item.result c.loop-tree-test.true c.tree-item.is
          c.loop-tree.list.items c.in_ok-structure.field-0 c.in_ok-structure.ensures.meant;
      over = All-push (IsRead c.args.vocab.now) c.loop-tree.list.items c.in_ok-structure.field-0 c.loop-tree.invariant.over c.in_ok-structure.ensures.over;
    })
