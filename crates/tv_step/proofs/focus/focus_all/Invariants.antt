use Rattle.std.proofs.Common.{[], ◌≡◌}
use Rattle.tv_step_laws.specs.Parts.{AreFrom}
use Rattle.tv_step_laws.specs.Transfer.{Focuses}
use Rattle.tv_step.specs.Places.{focus_place}
use Rattle.tv_step.specs.Setting.{form_in}
use Rattle.tv_step.specs.Steps.{Adds, KeepsLimits}
use Rattle.tv_step.proofs.focus.focus_all.Given as goal

abbrev pub invariant-loop-s : goal.invariant-loop-s
invariant-loop-s l = record {
  out : Adds (AreFrom (Focuses (form_in l.x) (focus_place l.turn))) l.yielded [] l.out;
  within : KeepsLimits (focus_place l.turn) l.yielded;
  scratch : l.scratch ≡ l.fn.scratch;
}
