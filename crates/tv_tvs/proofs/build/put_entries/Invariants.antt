use Rattle.std.proofs.Common.{◌≡◌, drop}
use Rattle.tv_tvs.specs.Meaning.{entries_put}
use Rattle.tv_tvs.specs.Targets.{KeepsFrame}
use Rattle.tv_tree.specs.Names.{names_of}
use Rattle.tv_tvs.specs.Views.{entry_trees}
use Rattle.tv_tvs.proofs.build.put_entries.Given as goal

abbrev pub invariant-loop-entry : goal.invariant-loop-entry
invariant-loop-entry l = record {
  left : entries_put l.preds (names_of l.individuals.keys) l.initial.s (entry_trees l.bytes l.entries)
      ≡ entries_put l.preds (names_of l.individuals.keys) l.s (entry_trees l.bytes (drop l.entry-index l.entries));
  keeps : KeepsFrame l.initial.s l.s;
}
