use Rattle.std.proofs.Common.{◌≡◌, map, take, All}
use Rattle.tv_model.specs.Form.{form_of}
use Rattle.tv_step_laws.specs.Transfer.{focus_places}
use Rattle.tv_step.specs.Places.{focus_place, HasWaiting}
use Rattle.tv_step.proofs.focus.turns.Given as goal

abbrev pub invariant-loop-formula : goal.invariant-loop-formula
invariant-loop-formula l = record {
  places : map focus_place l.turns.items ≡ focus_places (map form_of (take l.formula-index l.formulas));
  waiting : All (HasWaiting l.x.program.now) l.turns.items;
}
