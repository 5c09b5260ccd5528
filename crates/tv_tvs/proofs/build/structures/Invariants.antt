use Rattle.std.proofs.Common.{◌≡◌, ◌++◌, List, Ok, drop}
use Rattle.std.specs.Prelude.{All}
use Rattle.tv_structure_form.specs.StructureForm.{StructureForm}
use Rattle.tv_tvs.specs.Targets.{IsRead}
use Rattle.tv_tree.specs.Steps.{◌>>=◌}
use Rattle.tv_tvs.specs.Meaning.{structs_meant}
use Rattle.tv_tvs.specs.Views.{struct_trees}
use Rattle.tv_tvs.proofs.build.structures.Given as goal

abbrev pub invariant-loop-tree : goal.invariant-loop-tree
invariant-loop-tree l = record {
  left : structs_meant l.vocab.preds (struct_trees l.bytes l.trees)
      ≡ (structs_meant l.vocab.preds (struct_trees l.bytes (drop l.tree-index l.trees)) >>= λ (ss : List StructureForm). Ok (l.list.items ++ ss));
  over : All (IsRead l.vocab) l.list.items;
}
