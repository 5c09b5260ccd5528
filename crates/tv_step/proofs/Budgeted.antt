-- A step that has an answer keeps its budgets, and one that has none meets one of them, or memory is short.
use Rattle.std.proofs.Common.{ℕ, ◌≡◌, ◌≤◌, ◌⊎◌, List, [], ◌∷◌, ◌++◌, length, inl, inr, refl, subst, arith}
use Rattle.std.proofs.Common.{Contains}
use Rattle.std.proofs.Common.{All, Contains}
use Rattle.std.proofs.lemmas.List.Elements.{All-contains}
use Rattle.tv_model.specs.Program.{ProgramForm, ActionForm}
use Rattle.tv_update_laws.specs.Picks.{picks_of, passing_picks}
use Rattle.tv_focus.specs.Stage.{IsWithinLimits as KeepsStageLimits}
use Rattle.tv_update.specs.Update.{IsWithinLimits}
use Rattle.tv_structure_form.specs.StructureForm.{StructureForm, structure_of}
use Rattle.tv_struct.specs.declared.analysis.StageError.{StageError}
use Rattle.tv_struct.specs.declared.analysis.StageError.TheVariants.{Splits, Individuals, Memory}
use Rattle.tv_step_laws.specs.Budgets.{HasTurn, IsFocused, IsPassed, HasManyFoci, HasManyPicks, HasManyKept}
use Rattle.tv_step_laws.specs.Budgets.{HasLargeChoice, HasLargeMiddle, KeepsBudgets, IsStepCause}
use Rattle.tv_step_laws.specs.Transfer.{FocusPlace, focus_places, choices_at, Coerces, AreFocused, IsActionOf}
use Rattle.tv_step_laws.proofs.Exact.{at_hand-once}
use Rattle.tv_step_laws.proofs.Heaps.{action-once}
use Rattle.tv_step.specs.Steps.{KeepsLimits, AreFocusedWithin, KeepsUpdateLimits, IsCauseOfUpdate}
use Rattle.tv_step.specs.AtHand.{IsFocusFault}
use Rattle.tv_step.specs.Steps.{FailsAt, IsCauseOfFocus, IsCauseOfStep}
use Rattle.tv_step.proofs.Turns.{focused-are}

-- ---- budgets that are kept

-- the structures at hand where the turn of a place comes
abbrev IsAtTurn : ProgramForm → List FocusPlace → FocusPlace → List StructureForm → Type 0
IsAtTurn p before place ss = (us : List StructureForm) × AreFocused p before ss us × KeepsLimits place us

at-turn : (p : ProgramForm) (before : List FocusPlace) (place : FocusPlace) (after : List FocusPlace)
    (ss ts : List StructureForm)
    → AreFocusedWithin p (before ++ place ∷ after) ss ts → IsAtTurn p before place ss
at-turn p [] place after ss ts (us, made, kept, later) = (ss, refl, kept)
at-turn p (first ∷ before) place after ss ts (us, made, kept, later) =
    let found : IsAtTurn p before place us = at-turn p before place after us ts later
    in (found.0, (us, made, found.1), found.2)

-- what a step found: what coerce made of s, the structures at hand after focus, and the limits on the way
record IsWithin (p : ProgramForm) (action : ActionForm) (s : StructureForm)
    (start at_hand : List StructureForm) : Type 0 where
  coerces : Coerces p s start
  focused : AreFocusedWithin p (focus_places action.focus) start at_hand
  updates : All (KeepsUpdateLimits action) at_hand

turn-keeps : (p : ProgramForm) (action : ActionForm) (s : StructureForm) (start at_hand : List StructureForm)
    → IsWithin p action s start at_hand
    → (place : FocusPlace) (t : StructureForm) → HasTurn p action s place t
    → KeepsStageLimits t place.formula place.atom
turn-keeps p action s start at_hand within place t turn =
    let found : IsAtTurn p turn.before place start
    = at-turn p turn.before place turn.after start at_hand
    (subst (λ places. AreFocusedWithin p places start at_hand) turn.turn within.focused)
    in let same : turn.at_hand ≡ found.0
    = at_hand-once p turn.before s turn.at_hand found.0 turn.are_at_hand (start, within.coerces, found.1)
    in All-contains (λ u. KeepsStageLimits u place.formula place.atom) found.0 t found.2
    (subst (λ us. Contains us t) same turn.there)

focused-keeps : (p : ProgramForm) (action : ActionForm) (s : StructureForm)
    (start at_hand : List StructureForm)
    → IsWithin p action s start at_hand
    → (t : StructureForm) → IsFocused p action s t → KeepsUpdateLimits action t
focused-keeps p action s start at_hand within t (hand, are, there) =
    let same : hand ≡ at_hand
    = at_hand-once p (focus_places action.focus) s hand at_hand are
    (start, within.coerces, focused-are p (focus_places action.focus) start at_hand within.focused)
    in All-contains (KeepsUpdateLimits action) at_hand t within.updates
    (subst (λ us. Contains us t) same there)

passed-keeps : (p : ProgramForm) (action : ActionForm) (s : StructureForm)
    (start at_hand : List StructureForm)
    → IsWithin p action s start at_hand
    → (t : StructureForm) (picked : List ℕ) → IsPassed p action s t picked
    → IsWithinLimits action t (picks_of action picked)
passed-keeps p action s start at_hand within t picked passed =
    All-contains (λ us. IsWithinLimits action t (picks_of action us)) (passing_picks action (structure_of t))
    picked
    (focused-keeps p action s start at_hand within t passed.is_focused).within passed.passes

few-choices : (p : ProgramForm) (action : ActionForm) (s : StructureForm) (start at_hand : List StructureForm)
    → IsWithin p action s start at_hand
    → HasManyFoci p action s ⊎ HasManyPicks p action s ⊎ HasManyKept p action s → ⊥
few-choices p action s start at_hand within (inl (place, t, turn, many)) =
    omega (arith, many, (turn-keeps p action s start at_hand within place t turn).few)
few-choices p action s start at_hand within (inr (inl (t, focused, many))) =
    omega (arith, many, (focused-keeps p action s start at_hand within t focused).few_picks)
few-choices p action s start at_hand within (inr (inr (t, picked, passed, many))) =
    (passed-keeps p action s start at_hand within t picked passed).few many

few-individuals : (p : ProgramForm) (action : ActionForm) (s : StructureForm)
    (start at_hand : List StructureForm)
    → IsWithin p action s start at_hand → HasLargeChoice p action s ⊎ HasLargeMiddle p action s → ⊥
few-individuals p action s start at_hand within (inl (place, t, turn, (k, l, lt, is, large))) =
    let small : length l.individuals ≤ 256
    = All-contains (λ u. length u.individuals ≤ 256) (choices_at t place) l
    (turn-keeps p action s start at_hand within place t turn).small (k, lt, is)
    in omega (arith, large, small)
few-individuals p action s start at_hand within (inr (t, picked, passed, large)) =
    (passed-keeps p action s start at_hand within t picked passed).small large

pub budgets-kept : (p : ProgramForm) (edge : ℕ) (s : StructureForm) (action : ActionForm)
    (start at_hand : List StructureForm)
    → IsActionOf p edge action → Coerces p s start
    → AreFocusedWithin p (focus_places action.focus) start at_hand
    → All (KeepsUpdateLimits action) at_hand → KeepsBudgets p edge s
budgets-kept p edge s action start at_hand is coerces focused updates = record {
  splits = λ meets. few-choices p action s start at_hand within
      (subst (λ a. HasManyFoci p a s ⊎ HasManyPicks p a s ⊎ HasManyKept p a s)
      (action-once p edge meets.action action meets.its_action is) meets.many);
  individuals = λ meets. few-individuals p action s start at_hand within
      (subst (λ a. HasLargeChoice p a s ⊎ HasLargeMiddle p a s)
      (action-once p edge meets.action action meets.its_action is) meets.large);
}
  where
    within : IsWithin p action s start at_hand
    within = record { coerces = coerces; focused = focused; updates = updates }

-- ---- budgets that are met

-- the atom at whose turn focus fails has its turn
fails-turn : (p : ProgramForm) (action : ActionForm) (s : StructureForm) (start : List StructureForm)
    (Cause : FocusPlace → List StructureForm → Type 0) → Coerces p s start
    → (fails : FailsAt p (focus_places action.focus) start Cause) → (t : StructureForm) → Contains fails.at_hand t
    → HasTurn p action s fails.place t
fails-turn p action s start Cause coerces fails t there = record {
  before = fails.before;
  after = fails.after;
  turn = fails.turn;
  at_hand = fails.at_hand;
  are_at_hand = (start, coerces, fails.are_focused);
  there = there;
}

-- why focus on the action's atoms fails, in the words of budgets
pub focus-fault : (p : ProgramForm) (action : ActionForm) (s : StructureForm) (start : List StructureForm)
    (e : StageError) → Coerces p s start → IsCauseOfFocus p (focus_places action.focus) start e
    → IsFocusFault p action s e
focus-fault p action s start Splits coerces fails =
    let found = fails.is_cause
    in (
      fails.place,
      found.1,
      fails-turn p action s start _ coerces fails found.1 (found.0, found.2, found.3),
      found.4,
    )
focus-fault p action s start Individuals coerces fails =
    let found = fails.is_cause
    in (
      fails.place,
      found.1,
      fails-turn p action s start _ coerces fails found.1 (found.0, found.2, found.3),
      found.4,
    )
focus-fault p action s start Memory coerces fails = tt

focus-splits : (p : ProgramForm) (action : ActionForm) (s : StructureForm) (start : List StructureForm)
    → Coerces p s start → IsCauseOfStep p action start Splits
    → HasManyFoci p action s ⊎ HasManyPicks p action s ⊎ HasManyKept p action s
focus-splits p action s start coerces (inl fails) = inl (focus-fault p action s start Splits coerces fails)
focus-splits p action s start coerces (inr fails) =
    let found = fails.is_cause
    in inr (update-splits found.1
    (fails.at_hand, (start, coerces, fails.are_focused), (found.0, found.2, found.3)) found.4)
  where
    update-splits : (t : StructureForm) → IsFocused p action s t → IsCauseOfUpdate action t Splits
        → HasManyPicks p action s ⊎ HasManyKept p action s
    update-splits t focused (inl many) = inl (t, focused, many)
    update-splits t focused (inr (k, picked, lt, is, many)) =
        inr (t, picked, record { is_focused = focused; passes = (k, lt, is) }, many)

focus-individuals : (p : ProgramForm) (action : ActionForm) (s : StructureForm) (start : List StructureForm)
    → Coerces p s start → IsCauseOfStep p action start Individuals
    → HasLargeChoice p action s ⊎ HasLargeMiddle p action s
focus-individuals p action s start coerces (inl fails) =
    inl (focus-fault p action s start Individuals coerces fails)
focus-individuals p action s start coerces (inr fails) =
    let found = fails.is_cause
    in let large = found.4
    in inr (
      found.1,
      large.1,
      record {
        is_focused = (fails.at_hand, (start, coerces, fails.are_focused), (found.0, found.2, found.3));
        passes = (large.0, large.2, large.3);
      },
      large.4,
    )

pub step-cause : (p : ProgramForm) (edge : ℕ) (s : StructureForm) (action : ActionForm)
    (start : List StructureForm) (e : StageError)
    → IsActionOf p edge action → Coerces p s start → IsCauseOfStep p action start e → IsStepCause p edge s e
step-cause p edge s action start Splits is coerces cause =
    record { action = action; its_action = is; many = focus-splits p action s start coerces cause }
step-cause p edge s action start Individuals is coerces cause =
    record { action = action; its_action = is; large = focus-individuals p action s start coerces cause }
step-cause p edge s action start Memory is coerces cause = tt
