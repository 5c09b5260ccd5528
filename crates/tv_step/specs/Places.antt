-- The turns of focus, as the code lists them.
use Rattle.std.specs.Prelude.{Bool, List, length}
use Rattle.tv_model.specs.declared.program.Program.{Program}
use Rattle.tv_model.specs.Form.{Form, form_of}
use Rattle.tv_model.specs.Program.{program_of}
use Rattle.tv_rules.specs.Closing.{closed_rules}
use Rattle.tv_step_laws.specs.Transfer.{FocusPlace}
use Rattle.tv_step.specs.Waiting.{WaitsAt}
use Rattle.tv_step.specs.declared.focus.Turn.{Turn}

abbrev pub focus_place : Turn → FocusPlace
focus_place turn = record { formula = form_of turn.formula.value; atom = turn.atom }

-- the rules that a choice of an atom of the formula may leave unmet are in the set
abbrev pub AreWaitingAt : Program → Form → List Bool → Type 0
AreWaitingAt program f set = WaitsAt (length program.vocab.preds) f (closed_rules (program_of program)) set

-- those that a choice of the turn's atom may leave unmet wait
abbrev pub HasWaiting : Program → Turn → Type 0
HasWaiting program turn = AreWaitingAt program (form_of turn.formula.value) turn.waiting.value
