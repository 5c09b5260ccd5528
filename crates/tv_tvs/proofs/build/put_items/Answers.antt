use Rattle.std.proofs.Common.{◌∙◌}
use Rattle.std.proofs.lemmas.Result.{err_from_is_err_and}
use Rattle.tv_tvs.specs.Targets.{subject_form}
use Rattle.tv_tree.specs.Names.{names_of}
use Rattle.tv_tvs.specs.Views.{item_tree}
use Rattle.tv_tvs.proofs.Building.{fails_along, keeps_then, items_more, items_fail}
use Rattle.tv_tvs.proofs.build.put_items.Goals as goal

pub loop-item-preserved : goal.loop-item-preserved
loop-item-preserved c = record {
  left = c.loop-item.invariant.left
      ∙ items_more (names_of c.args.individuals.now.keys) (subject_form c.args.target) (item_tree c.args.bytes.now) c.args.items.now c.loop-item.item-index _ c.loop-item-test.true
      c.loop-item.s c.put_item.new.s c.in_ok-put_item.ensures.put;
  keeps = keeps_then c.args.s.now c.loop-item.s c.put_item.new.s c.loop-item.invariant.keeps c.put_item.ensures.keeps;
}

pub returns-in_err-put_item-clause-put : goal.returns-in_err-put_item-clause-put
returns-in_err-put_item-clause-put c =
    let p = err_from_is_err_and c.from_residual.result c.from_residual.ensures.1
    in rw (p.1, p.2)
    (fails_along c.in_err-put_item.field-0.0 _ _ c.loop-item.invariant.left
    (items_fail (names_of c.args.individuals.now.keys) (subject_form c.args.target) (item_tree c.args.bytes.now) c.args.items.now c.loop-item.item-index _ c.loop-item-test.true
    c.loop-item.s c.in_err-put_item.field-0.0 c.in_err-put_item.ensures.put))
