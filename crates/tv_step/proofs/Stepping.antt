-- The step, from its parts.
use Rattle.std.proofs.Common.{ℕ, ◌≡◌, ◌↔◌, List, [], ◌∷◌, map, None, inl, inr, sym, subst, slice_get, Some}
use Rattle.std.proofs.Common.{All, Contains}
use Rattle.std.specs.List.{range_with_len}
use Rattle.std.specs.List.Sorted.{IsStrictlySortedBy}
use Rattle.std.proofs.lemmas.List.Elements.{All-cons, All-contains, All-nil}
use Rattle.tv_lemmas.proofs.Lists.{All-mapped}
use Rattle.tv_model.specs.declared.program.Message.{Message}
use Rattle.tv_model.specs.declared.program.Mode.{Mode}
use Rattle.tv_model.specs.Form.{Form, form_of}
use Rattle.tv_model.specs.Program.{ProgramForm, ActionForm, MessageForm, message_of}
use Rattle.tv_model.specs.Valid.{IsValid, IsPlainFormula, IsMessage}
use Rattle.tv_model.proofs.Lists.{All-from_contains, Contains-map_back, Contains-flat_map_back}
use Rattle.tv_model.proofs.Lists.{slice_get-contains}
use Rattle.tv_eval.proofs.Programs.{within_height}
use Rattle.tv_struct.specs.Order.{structure_cmp}
use Rattle.tv_structure_form.specs.StructureForm.{StructureForm, IsStructure}
use Rattle.tv_structure_form.proofs.Library.{below-range}
use Rattle.tv_step_laws.specs.Parts.{AreFrom}
use Rattle.tv_step_laws.specs.Shaped.{IsShaped}
use Rattle.tv_step_laws.specs.Transfer.{FocusPlace, places_in, focus_places, Coerces, Focuses, Finishes}
use Rattle.tv_step_laws.specs.Transfer.{Steps, IsBlurOf}
use Rattle.tv_step_laws.proofs.From.{from-all, zip-all}
use Rattle.tv_step.specs.declared.focus.Turn.{Turn}
use Rattle.tv_step.specs.Places.{focus_place}
use Rattle.tv_step.specs.Setting.{IsStableIn}
use Rattle.tv_step.specs.Steps.{HasRoomFor, IsPlace, StepsIn, AreFocusedWithin, KeepsUpdateLimits}
use Rattle.tv_step.specs.Steps.{AreResultsOf}
use Rattle.tv_step.proofs.Adding.{each-unit, from-weaker}
use Rattle.tv_step.proofs.Picking.{action-of}
use Rattle.tv_step.proofs.Turns.{at, focus-shaped, focused-are}

-- ---- what an action has

-- the places of the atoms of formulas over the program
all-places : (p : ProgramForm) (fs : List Form) → All (IsPlainFormula p) fs
    → All (IsPlace p) (focus_places fs)
all-places p fs all =
    All-from_contains (IsPlace p) (focus_places fs)
    (λ place here. let found = Contains-flat_map_back places_in fs place here
    in let number = Contains-map_back (at found.0) (range_with_len 0 _) place found.2
    in subst (IsPlace p) number.2 (record {
      formula = (All-contains (IsPlainFormula p) fs found.0 all found.1).0;
      atom = below-range _ number.0 number.1;
    }))

pub action-places : (p : ProgramForm) → IsValid p → (n : ℕ) (action : ActionForm)
    → slice_get p.actions n ≡ Some action
    → (places : List Turn) → map focus_place places ≡ focus_places action.focus
    → All (λ place. IsPlace p (focus_place place)) places
action-places p valid n action there places are =
    All-mapped (IsPlace p) focus_place places
    (subst (All (IsPlace p)) (sym are) (all-places p action.focus (action-of p valid n action there).focus))

pub action-messages : (p : ProgramForm) → IsValid p → (n : ℕ) (action : ActionForm)
    → slice_get p.actions n ≡ Some action
    → (messages : List Message) → map message_of messages ≡ action.messages
    → All (λ m. IsMessage p (message_of m)) messages
action-messages p valid n action there messages are =
    All-mapped (IsMessage p) message_of messages
    (subst (All (IsMessage p)) (sym are) (action-of p valid n action there).messages)

pub action-room : (p : ProgramForm) (n : ℕ) (action : ActionForm) → slice_get p.actions n ≡ Some action
    → (messages : List Message) → map message_of messages ≡ action.messages
    → All (λ m. HasRoomFor p (form_of m.cond)) messages
action-room p n action there messages are =
    All-mapped (λ (m : MessageForm). HasRoomFor p m.cond) message_of messages
    (subst (All (λ (m : MessageForm). HasRoomFor p m.cond)) (sym are)
    (All-from_contains (λ (m : MessageForm). HasRoomFor p m.cond) action.messages
    (λ m here. (within_height p).messages action m (slice_get-contains p.actions n action there) here)))

-- ---- the structures on the way

pub coerces-stable : (p : ProgramForm) (s : StructureForm) (ts : List StructureForm) → Coerces p s ts
    → All (IsStableIn p) ts
coerces-stable p s ts (inl (none, is)) = subst (All (IsStableIn p)) (sym is) (All-nil (IsStableIn p))
coerces-stable p s ts (inr (t, coerced, is)) =
    subst (All (IsStableIn p)) (sym is)
    (All-cons (IsStableIn p) t [] coerced.greatest.stable (All-nil (IsStableIn p)))

pub within-shaped : (p : ProgramForm) (places : List FocusPlace) (ss ts : List StructureForm)
    → AreFocusedWithin p places ss ts
    → All (IsShaped p) ss → All (IsShaped p) ts
within-shaped p [] ss ts are shaped = subst (All (IsShaped p)) (sym are) shaped
within-shaped p (place ∷ places) ss ts (us, made, kept, later) shaped =
    within-shaped p places us ts later (focus-shaped p place ss us made)

pub focus-stable : (p : ProgramForm) (place : FocusPlace) (ss ts : List StructureForm)
    → AreFrom (Focuses p place) ss ts → All (IsStableIn p) ts
focus-stable p place ss ts from =
    from-all (Focuses p place) (λ s. Unit {0}) (IsStableIn p)
    (λ s own nothing (us, zip, made). from-all (Coerces p) (λ u. Unit {0}) (IsStableIn p)
    (λ u parts none coerces. coerces-stable p u parts coerces) us own made (each-unit us)) ss ts from
    (each-unit ss)

pub within-stable : (p : ProgramForm) (places : List FocusPlace) (ss ts : List StructureForm)
    → AreFocusedWithin p places ss ts
    → All (IsStableIn p) ss → All (IsStableIn p) ts
within-stable p [] ss ts are stable = subst (All (IsStableIn p)) (sym are) stable
within-stable p (place ∷ places) ss ts (us, made, kept, later) stable =
    within-stable p places us ts later (focus-stable p place ss us made)

steps-unmarked : (p : ProgramForm) (mode : Mode) (action : ActionForm) (s : StructureForm)
    (ts : List StructureForm)
    → Steps p mode action s ts → All (λ t. t.fresh ≡ None) ts
steps-unmarked p mode action s ts (us, updates, ends) =
    from-all (Finishes p) (λ u. Unit {0}) (λ t. t.fresh ≡ None)
    (λ u own unit (cs, coerces, zip).
    zip-all (IsBlurOf p) (λ t. t.fresh ≡ None) (λ c t (shaped, by). by.1.unmarked) cs own zip) us ts ends
    (each-unit us)

pub given-unmarked : (p : ProgramForm) (mode : Mode) (action : ActionForm) (ss ts : List StructureForm)
    → AreFrom (StepsIn p mode action) ss ts
    → All (λ t. t.fresh ≡ None) ts
given-unmarked p mode action ss ts are =
    from-all (StepsIn p mode action) (λ s. Unit {0}) (λ t. t.fresh ≡ None)
    (λ s own unit steps. steps-unmarked p mode action s own steps.0) ss ts are (each-unit ss)

given-structures : (p : ProgramForm) (mode : Mode) (action : ActionForm) (ss ts : List StructureForm)
    → AreFrom (StepsIn p mode action) ss ts
    → All IsStructure ts
given-structures p mode action ss ts are =
    from-all (StepsIn p mode action) (λ s. Unit {0}) IsStructure (λ s own unit steps. steps.1) ss ts are
    (each-unit ss)

-- what the structures at hand give, sorted, are the results
pub results-of : (p : ProgramForm) (mode : Mode) (action : ActionForm)
    (start at_hand given results : List StructureForm)
    → AreFocusedWithin p (focus_places action.focus) start at_hand
    → AreFrom (StepsIn p mode action) at_hand given → All (KeepsUpdateLimits action) at_hand
    → ((t : StructureForm) → Contains results t ↔ Contains given t)
    → IsStrictlySortedBy structure_cmp results
    → AreResultsOf p mode action start results
results-of p mode action start at_hand given results focused are limits same sorted = record {
  at_hand = at_hand;
  are_focused = focused-are p (focus_places action.focus) start at_hand focused;
  given = given;
  are_given = from-weaker (StepsIn p mode action) (Steps p mode action) (λ s own both. both.0) at_hand given
      are;
  same = same;
  sorted = sorted;
  kept = All-from_contains IsStructure results
      (λ t here. All-contains IsStructure given t (given-structures p mode action at_hand given are)
      ((same t).0 here));
  within_focus = focused;
  within_updates = limits;
}
