use Rattle.std.proofs.Common.{take}
use Rattle.tv_step_laws.specs.Parts.{AreFrom}
use Rattle.tv_step_laws.specs.Transfer.{Focuses}
use Rattle.tv_step.specs.Places.{focus_place}
use Rattle.tv_step.specs.Setting.{form_in}
use Rattle.tv_step.specs.Steps.{KeepsLimits}
use Rattle.tv_step.proofs.focus.are_known.Given as goal

abbrev pub invariant-loop-s : goal.invariant-loop-s
invariant-loop-s l = record {
  from : AreFrom (Focuses (form_in l.x) (focus_place l.turn)) (take l.s-index l.at_hand) (take l.s-index l.at_hand);
  within : KeepsLimits (focus_place l.turn) (take l.s-index l.at_hand);
}
