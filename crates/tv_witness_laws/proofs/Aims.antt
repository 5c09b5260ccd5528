-- Copies are as asked where what they are copies of is.
use Rattle.std.proofs.Common.{ℕ, ◌↔◌, []}
use Rattle.std.proofs.Common.{refl}
use Rattle.std.proofs.lemmas.List.Elements.{All-contains}
use Rattle.tv_model.specs.Form.{Form}
use Rattle.tv_model.specs.Heap.{Heap}
use Rattle.tv_model.specs.Program.{ProgramForm, MessageForm}
use Rattle.tv_model.specs.Rules.{blank}
use Rattle.tv_model.specs.Truth.{Truth}
use Rattle.tv_model.specs.Valid.{IsValid, IsAction, IsMessage, IsOver}
use Rattle.tv_model.proofs.Lists.{Contains-none, slice_get-contains}
use Rattle.tv_renaming_laws.specs.Renamed.{renamed, renamed_values}
use Rattle.tv_renaming_laws.proofs.Names.{truth-renamed}
use Rattle.tv_step_laws.specs.Sound.{IsMessageOf}
use Rattle.tv_structure_form.specs.StructureForm.{structure_of}
use Rattle.tv_start_laws.specs.Copies.{IsCopyBy}
use Rattle.tv_witness_laws.specs.Laws.{CopiesKeepAims, CopiesKeepMessages}
use Rattle.tv_witness_laws.specs.Witness.{Makes, LiesIn}
use Rattle.tv_start_laws.proofs.Alike.{alike-truth_at}
use Rattle.tv_start_laws.proofs.Copying.{copy-back, lies-kept}

makes-kept : (r s : ℕ → ℕ) (h k : Heap) → IsCopyBy r s h k → (cond : Form) → IsOver [] cond → Truth h blank cond
    ↔ Truth k blank cond
makes-kept r s h k by cond closed =
    let one : Truth h blank cond ↔ Truth (renamed r h) (renamed_values r blank) cond
    = truth-renamed r s by.renaming h blank (renamed_values r blank) cond (λ v free. refl)
    in let two : Truth (renamed r h) (renamed_values r blank) cond ↔ Truth k blank cond
    =
    alike-truth_at (renamed r h) k by.alike (renamed_values r blank) blank cond
    (λ v free. absurd (Contains-none v (closed v free)))
    in (λ t. two.0 (one.0 t), λ t. one.1 (two.1 t))

pub copies_keep_aims : CopiesKeepAims
copies_keep_aims (Makes cond) closed h k (r, s, by) = makes-kept r s h k by cond closed
copies_keep_aims (LiesIn t) closed h k (r, s, by) = (
  lies-kept r s h k by (structure_of t),
  lies-kept s r k h (copy-back r s h k by) (structure_of t),
)

-- a message's condition has no free variables
message-closed : (p : ProgramForm) → IsValid p → (edge number : ℕ) (m : MessageForm) → IsMessageOf p edge number m
    → IsOver [] m.cond
message-closed p valid edge number m (action, of, found) =
    let is : IsAction p action
    = All-contains (IsAction p) p.actions action valid.actions
    (slice_get-contains p.actions of.taken.action action of.its_action)
    in let message : IsMessage p m
    = All-contains (IsMessage p) action.messages m is.messages (slice_get-contains action.messages number m found)
    in message.1

pub copies_keep_messages : CopiesKeepMessages
copies_keep_messages p valid edge number m is h k (r, s, by) =
    makes-kept r s h k by m.cond (message-closed p valid edge number m is)
