-- Formulas of the program can be evaluated in a step.
use Rattle.std.proofs.Common.{ℕ, ◌≡◌, ◌∙◌, ◌<◌, ◌≤◌, ◌+◌, List, length, take, Option, None, ap, arith}
use Rattle.std.proofs.Common.{add-one, get_or}
use Rattle.std.specs.Prelude.{unwrap_or}
use Rattle.std.proofs.lemmas.List.{map-append}
use Rattle.std.proofs.Math.Seq.{take-suc}
use Rattle.tv_kleene.specs.declared.K3.{K3}
use Rattle.tv_kleene.specs.Kleene.{larger_of}
use Rattle.tv_kleene.proofs.Lattice.{larger-no}
use Rattle.tv_model.specs.Form.{Form}
use Rattle.tv_model.specs.Program.{ProgramForm, MessageForm}
use Rattle.tv_model.specs.Rules.{blank}
use Rattle.tv_model.specs.Valid.{IsMessage}
use Rattle.tv_model.proofs.Lists.{Contains-none}
use Rattle.tv_eval_laws.specs.Value.{value}
use Rattle.tv_row.proofs.Greatest.{greatest-append}
use Rattle.tv_structure_form.specs.StructureForm.{StructureForm, structure_of}
use Rattle.tv_eval.specs.AssignmentForm.{individual_for, assignment_of}
use Rattle.tv_eval.specs.Formulas.{AreAssigned}
use Rattle.tv_eval.specs.ScratchForm.{ScratchForm, HasScratchFor}
use Rattle.tv_eval.proofs.Programs.{made_scratches_fit}
use Rattle.tv_step_laws.specs.Transfer.{message_value}
use Rattle.tv_step.specs.declared.setting.Setting.{Setting}
use Rattle.tv_step.specs.Setting.{form_in, IsReadyToStep}
use Rattle.tv_step.specs.Steps.{HasRoomFor}

-- there is room for the formula in each structure
pub room-fits : (x : Setting) (scratch : ScratchForm) (f : Form) (m : ℕ) → IsReadyToStep x scratch
    → HasRoomFor (form_in x) f → m ≤ 256
    → HasScratchFor scratch f m
room-fits x scratch f m ready room few =
    made_scratches_fit (form_in x) 256 m scratch f ready.room (omega (arith, room)) few

-- an assignment of nobody is blank
pub nobody-blank : (places : List (Option ℕ)) → ((v : ℕ) → individual_for places v ≡ None)
    → assignment_of places ≡ blank
nobody-blank places none = λ i v. unwrap_or (none v i) 0

-- a message's condition has no free variables
pub nobody-assigned : (p : ProgramForm) (m : MessageForm) (size : ℕ) (places : List (Option ℕ))
    → IsMessage p m
    → AreAssigned size places m.cond
nobody-assigned p m size places is v free = absurd (Contains-none v (is.1 v free))

-- the value in one more structure
pub message-next : (ss : List StructureForm) (i : ℕ) (s : StructureForm) (m : MessageForm)
    (places : List (Option ℕ)) (k v r : K3)
    → i < length ss → s ≡ get_or ss i s → ((w : ℕ) → individual_for places w ≡ None)
    → k ≡ message_value (take i ss) m → v ≡ value (structure_of s) (assignment_of places) m.cond
    → r ≡ larger_of k v
    → r ≡ message_value (take (i + 1) ss) m
message-next ss i s m places k v r lt is none before own larger =
    let at : StructureForm → K3 = λ t. value (structure_of t) blank m.cond
    in let value_there : v ≡ at s = own ∙ ap (λ a. value (structure_of s) a m.cond) (nobody-blank places none)
    in rw (add-one, take-suc ss i s lt, ← is, map-append, greatest-append, larger-no)
    (larger ∙ ap (λ x. larger_of x v) before ∙ ap (larger_of (message_value (take i ss) m)) value_there)
