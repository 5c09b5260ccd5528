-- The actions that resolution gives.
use Rattle.std.proofs.Common.{◌≡◌, ℕ, ◌≤◌, List, [], ◌∷◌, refl, subst, arith, Ok, Option}
use Rattle.std.specs.Prelude.{All, sum_by}
use Rattle.std.proofs.lemmas.List.Elements.{All-nil, All-cons}
use Rattle.std.proofs.lemmas.List.Sums.{sum_by-cons}
use Rattle.tv_tree.specs.Forms.{PartForm}
use Rattle.tv_model.specs.Form.{Form}
use Rattle.tv_model.specs.Program.{ProgramForm, PredForm, MessageForm, RetainForm, UpdateForm, ActionForm}
use Rattle.tv_model.specs.Valid.{IsAction}
use Rattle.tv_flat.specs.FlatForm.{part_items}
use Rattle.tv_vocab.specs.Premise.{HasTexts}
use Rattle.tv_names.specs.Refusal.{◌>>=◌, OrRefused, one_by_one, each}
use Rattle.tv_names.specs.Symbols.{SymbolForm}
use Rattle.tv_vocab.specs.Actions.{PickingForm, focus_in, pre_in, retain_in, adds_new, updates_in, focused}
use Rattle.tv_vocab.specs.Actions.{precondition, messages, retain, with_update, action}
use Rattle.tv_vocab.proofs.valid.Refusals.{ok_is, went}
use Rattle.tv_vocab.proofs.valid.Parts.{AreSymbols}
use Rattle.tv_vocab.proofs.valid.Zips.{each_zip, zip_all}
use Rattle.tv_vocab.proofs.valid.Picked.{precondition_given}
use Rattle.tv_vocab.proofs.valid.Messages.{focus_given, messages_given, messages_length, retain_given}
use Rattle.tv_vocab.proofs.valid.Updates.{updates_given}

abbrev made : List PartForm → List Form → PickingForm → List MessageForm → Option RetainForm → List UpdateForm → ActionForm
made parts focus picking said keeps updates = record {
  pre = picking.pre;
  picks = picking.picks;
  focus = focus;
  messages = said;
  fresh = adds_new parts;
  retain = keeps;
  updates = updates;
}

abbrev from_retain : List SymbolForm → List PredForm → List PartForm → List Form → PickingForm → List MessageForm → Option RetainForm → OrRefused ActionForm
from_retain symbols preds parts focus picking said keeps =
    one_by_one (with_update symbols preds (adds_new parts) picking) [] (updates_in parts) >>= λ updates. Ok (made parts focus picking said keeps updates)

abbrev from_messages : List SymbolForm → List PredForm → List PartForm → List Form → PickingForm → List MessageForm → OrRefused ActionForm
from_messages symbols preds parts focus picking said =
    retain symbols (adds_new parts) picking (retain_in parts) >>= λ keeps. from_retain symbols preds parts focus picking said keeps

abbrev from_picking : List SymbolForm → List PredForm → List PartForm → List Form → PickingForm → OrRefused ActionForm
from_picking symbols preds parts focus picking = messages symbols parts >>= λ said. from_messages symbols preds parts focus picking said

abbrev from_focus : List SymbolForm → List PredForm → List PartForm → List Form → OrRefused ActionForm
from_focus symbols preds parts focus = precondition symbols (pre_in parts) >>= λ picking. from_picking symbols preds parts focus picking

action_given : (p : ProgramForm) (symbols : List SymbolForm) (parts : List PartForm) (act : ActionForm) → AreSymbols p symbols → All HasTexts parts → sum_by part_items parts ≤ 65536 → action symbols p.preds parts ≡ Ok act → IsAction p act
unfolding action
action_given p symbols parts act are flat few h =
    let a = went (focused symbols (focus_in parts)) (λ focus. from_focus symbols p.preds parts focus) act h in
    let b = went (precondition symbols (pre_in parts)) (λ picking. from_picking symbols p.preds parts a.x picking) act a.rest in
    let c = went (messages symbols parts) (λ said. from_messages symbols p.preds parts a.x b.x said) act b.rest in
    let e = went (retain symbols (adds_new parts) b.x (retain_in parts)) (λ keeps. from_retain symbols p.preds parts a.x b.x c.x keeps) act c.rest in
    let g = went (one_by_one (with_update symbols p.preds (adds_new parts) b.x) [] (updates_in parts)) (λ updates. Ok (made parts a.x b.x c.x e.x updates)) act e.rest in
    let all = made parts a.x b.x c.x e.x g.x in
    let picking = precondition_given p symbols (pre_in parts) b.x are b.gave in
    let updates = updates_given p symbols all b.x (updates_in parts) g.x are picking refl g.gave in
    let long = messages_length symbols parts [] c.x c.gave in
    subst (IsAction p) (ok_is all act g.rest)
    (record {
      precondition = picking.precondition;
      focus = focus_given p symbols (focus_in parts) a.x are a.gave;
      messages = messages_given p symbols parts c.x are flat c.gave;
      message_count = omega (arith, long, few);
      retain = retain_given p symbols all b.x (retain_in parts) e.x are picking refl e.gave;
      updates = updates.all;
      updated_once = updates.once;
    })

pub within_sum : {X : Type 0} (f : X → ℕ) (xs : List X) (n : ℕ) → sum_by f xs ≤ n → All (λ x. f x ≤ n) xs
within_sum f [] n h = All-nil (λ x. f x ≤ n)
within_sum f (x ∷ xs) n h =
    let sum = sum_by-cons f x xs in
    All-cons (λ y. f y ≤ n) x xs (omega (arith, sum, h)) (within_sum f xs n (omega (arith, sum, h)))

pub actions_valid : (p : ProgramForm) (symbols : List SymbolForm) (xs : List (List PartForm)) (ys : List ActionForm) → AreSymbols p symbols → All (All HasTexts) xs → sum_by (sum_by part_items) xs ≤ 65536 → each (action symbols p.preds) xs ≡ Ok ys → All (IsAction p) ys
actions_valid p symbols xs ys are flat few h =
    let fits = within_sum (sum_by part_items) xs 65536 few in
    zip_all (λ x y. action symbols p.preds x ≡ Ok y) (λ x. All HasTexts x × (sum_by part_items x ≤ 65536)) (IsAction p) (λ x y q e. action_given p symbols x y are q.0 q.1 e) xs ys
    (each_zip (action symbols p.preds) xs ys h) (λ k d lt. (flat k d lt, fits k d lt))
