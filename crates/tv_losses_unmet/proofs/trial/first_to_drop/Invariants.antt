use Rattle.std.proofs.Common.{ℕ, ◌≡◌, ◌<◌, List, Some, slice_get}
use Rattle.tv_model.specs.declared.program.Rule.{Rule as Declaration}
use Rattle.tv_rules.specs.EntryForms.{rules_of}
use Rattle.tv_losses_unmet.specs.Kept.{DropEach}
use Rattle.tv_losses_unmet.proofs.trial.first_to_drop.Given as goal

abbrev pub invariant-loop-number : goal.invariant-loop-number
invariant-loop-number l = record {
  none : (k : ℕ) (bases : List Declaration) → k < l.number → slice_get l.lists k ≡ Some bases
      → ¬ DropEach l.x.structures.now (rules_of bases);
  scratch : l.scratch ≡ l.fn.scratch;
}
