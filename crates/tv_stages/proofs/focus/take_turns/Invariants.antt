use Rattle.std.proofs.Common.{◌≡◌, take}
use Rattle.tv_model.specs.Form.{form_of}
use Rattle.tv_stages.specs.Tasks.{task_program}
use Rattle.tv_stages.specs.Turns.{Turned, numbered_places}
use Rattle.tv_stages.proofs.focus.take_turns.Given as goal

abbrev pub invariant-loop-atom : goal.invariant-loop-atom
invariant-loop-atom l = record {
  turned : Turned (task_program l.x) (take l.atom (numbered_places l.number (form_of l.formula)))
      l.fn.progress l.progress;
  same : l.tools ≡ l.fn.tools;
}
