use Rattle.std.proofs.Common.{◌≡◌, [], map, take}
use Rattle.tv_model.specs.Form.{form_of}
use Rattle.tv_stages_laws.specs.Stages.{places_from}
use Rattle.tv_stages.specs.Tasks.{task_program}
use Rattle.tv_stages.specs.Turns.{Turned}
use Rattle.tv_stages.proofs.focus.focus.Given as goal

abbrev pub invariant-loop-number : goal.invariant-loop-number
invariant-loop-number l = record {
  turned : Turned (task_program l.x) (places_from 0 (map form_of (take l.number l.formulas)))
      (record { rows = []; at_hand = l.fn.start }) l.progress;
  same : l.tools ≡ l.fn.tools;
}
