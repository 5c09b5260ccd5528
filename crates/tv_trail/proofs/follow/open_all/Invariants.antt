use Rattle.std.proofs.Common.{ℕ, ◌≡◌, ◌<◌, Some, slice_get}
use Rattle.tv_structure_form.specs.StructureForm.{StructureForm}
use Rattle.tv_trail_laws.specs.Met.{IsFirst, AreOpenedIn}
use Rattle.tv_work.specs.Task.{task_of}
use Rattle.tv_trail.specs.Searched.{IsState, Meets}
use Rattle.tv_trail.proofs.follow.open_all.Given as goal

abbrev pub invariant-loop-number : goal.invariant-loop-number
invariant-loop-number l = record {
  kept : IsState (task_of l.x) l.search;
  meets : Meets IsFirst l.initial.search l.search;
  opened : (number : ℕ) (s : StructureForm) → number < l.number → slice_get l.x.initial.now number ≡ Some s
      → AreOpenedIn (task_of l.x) l.search.found s;
  same : l.stepper ≡ l.initial.stepper;
}
