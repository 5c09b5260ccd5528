use Rattle.std.proofs.Common.{◌≡◌, ◌++◌, map, All}
use Rattle.std.specs.List.{range_with_len}
use Rattle.tv_model.specs.declared.program.Program.{Program}
use Rattle.tv_model.specs.Form.{form_of}
use Rattle.tv_step.specs.Places.{focus_place, AreWaitingAt, HasWaiting}
use Rattle.tv_step.proofs.focus.push_turns.Given as goal

abbrev pub invariant-loop-atom : goal.invariant-loop-atom
invariant-loop-atom l = record {
  places : map focus_place l.turns.items
      ≡ map focus_place l.fn.turns.items
      ++ map (λ k. record { formula = form_of l.atoms.value; atom = k }) (range_with_len 0 l.atom);
  waiting : (program : Program) → AreWaitingAt program (form_of l.atoms.value) l.fn.waiting.value
      → All (HasWaiting program) l.fn.turns.items → All (HasWaiting program) l.turns.items;
}
