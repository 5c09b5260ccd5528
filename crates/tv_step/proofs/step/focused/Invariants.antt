use Rattle.std.proofs.Common.{◌≡◌, map, take, All}
use Rattle.std.specs.Prelude.{unwrap_or}
use Rattle.tv_step_laws.specs.Shaped.{IsShaped}
use Rattle.tv_step.specs.Places.{focus_place}
use Rattle.tv_step.specs.Setting.{form_in, IsStableIn}
use Rattle.tv_step.specs.Steps.{AreFocusedWithin}
use Rattle.tv_step.proofs.step.focused.Given as goal

abbrev pub invariant-loop-turn : goal.invariant-loop-turn
invariant-loop-turn l = record {
  are : AreFocusedWithin (form_in l.x) (map focus_place (take l.turn-index l.turn-items)) l.start (unwrap_or l.found l.start);
  shaped : All (IsShaped (form_in l.x)) (unwrap_or l.found l.start);
  stable : All (IsStableIn (form_in l.x)) (unwrap_or l.found l.start);
  scratch : l.scratch ≡ l.fn.scratch;
}
