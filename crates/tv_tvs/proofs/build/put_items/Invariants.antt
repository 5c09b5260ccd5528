use Rattle.std.proofs.Common.{◌≡◌, drop}
use Rattle.tv_tvs.specs.Meaning.{items_put}
use Rattle.tv_tvs.specs.Targets.{subject_form, KeepsFrame}
use Rattle.tv_tree.specs.Names.{names_of}
use Rattle.tv_tvs.specs.Views.{item_trees}
use Rattle.tv_tvs.proofs.build.put_items.Given as goal

abbrev pub invariant-loop-item : goal.invariant-loop-item
invariant-loop-item l = record {
  left : items_put (names_of l.individuals.keys) (subject_form l.target) l.initial.s (item_trees l.bytes l.items)
      ≡ items_put (names_of l.individuals.keys) (subject_form l.target) l.s (item_trees l.bytes (drop l.item-index l.items));
  keeps : KeepsFrame l.initial.s l.s;
}
