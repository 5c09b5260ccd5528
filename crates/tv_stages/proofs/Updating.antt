-- What an action gives under picked individuals.
use Rattle.std.proofs.Common.{ℕ, ◌≡◌, ◌∙◌, ◌<◌, ◌≤◌, ◌⊎◌, true, List, length, map, Option, Some, Result, Ok}
use Rattle.std.proofs.Common.{Err}
use Rattle.std.proofs.Common.{ap, inl, inr}
use Rattle.std.proofs.Common.{sym, subst, slice_get}
use Rattle.std.proofs.Common.{get_or, All, Contains}
use Rattle.std.specs.Prelude.{Any, IfOk}
use Rattle.std.proofs.lemmas.Bool.{false≢true}
use Rattle.std.proofs.lemmas.List.Elements.{All-contains}
use Rattle.std.proofs.lemmas.Option.{get_or_from_slice_get}
use Rattle.tv_eval.specs.AssignmentForm.{IsAssigned}
use Rattle.tv_eval.specs.Formulas.{AreAssigned}
use Rattle.tv_eval.specs.ScratchForm.{program_height}
use Rattle.tv_eval.proofs.Programs.{within_height}
use Rattle.tv_kleene.specs.declared.K3.{K3}
use Rattle.tv_kleene.specs.declared.K3.TheVariants.{No, Half, Yes}
use Rattle.tv_model.specs.declared.program.Mode.{Mode}
use Rattle.tv_model.specs.declared.program.Program.{Program}
use Rattle.tv_model.specs.Form.{Form, height}
use Rattle.tv_model.specs.Program.{ProgramForm, ActionForm, program_of}
use Rattle.tv_model.specs.Truth.{Assignment}
use Rattle.tv_model.specs.Valid.{IsAction, IsFormula, IsFormulaOver, IsPlainFormula, IsPrecondition, IsValid}
use Rattle.tv_model.specs.Valid.{IsVariable}
use Rattle.tv_model.specs.Valid.{first_occurrences, free_occurrences}
use Rattle.tv_model.proofs.Lists.{All-from_contains, Contains-filter, slice_get-contains}
use Rattle.tv_model.proofs.Parts.{first-occurs}
use Rattle.tv_structure_form.specs.StructureForm.{StructureForm, arities_of, structure_of}
use Rattle.tv_struct.specs.declared.analysis.StageError.{StageError}
use Rattle.tv_struct.specs.declared.analysis.StageError.TheVariants.{Splits, Individuals, Memory}
use Rattle.tv_update_laws.specs.Choices.{AreGiven}
use Rattle.tv_update_laws.specs.Picks.{isnt_no, lists_of, passing_picks, picks_of, precondition_value}
use Rattle.tv_update_laws.specs.Tables.{HasManyChoices, IsGivenOver, IsTooLarge}
use Rattle.tv_update_laws.proofs.Preconditions.{free-occurs}
use Rattle.tv_update.specs.Update.{IsUpdateCause, action_at, no_action}
use Rattle.tv_update.proofs.Variables.{picks-in_range}
use Rattle.tv_step_laws.proofs.Picked.{lists-inside}
use Rattle.tv_structure_form.proofs.Library.{below-range}
use Rattle.tv_step_laws.specs.Shaped.{IsShaped}
use Rattle.tv_step_laws.specs.Transfer.{GivesStructures, IsActionOf}
use Rattle.tv_step.specs.Steps.{IsCauseOfPick, IsCauseOfUpdate, IsCauseOfUpdates, passes}
use Rattle.tv_stages_laws.specs.Stages.{GivesAt}

any-of : {X : Type 0} (P : X → Type 0) (xs : List X) (x : X) → Contains xs x → P x → Any P xs
any-of P xs x at holds = (at.0, x, at.1, at.2, holds)

-- why an update fails is why the step does, for individuals that are picked
pub pick-cause : (action : ActionForm) (s : StructureForm) (picked : List ℕ) (e : StageError)
    → Contains (lists_of (structure_of s).individuals (length action.picks)) picked
    → IsCauseOfPick action s (picks_of action picked) e → IsCauseOfUpdate action s e
pick-cause action s picked Splits at (passed, many) =
    inr (any-of (λ us. HasManyChoices action (structure_of s) (picks_of action us))
    (passing_picks action (structure_of s)) picked
    (Contains-filter (λ us. isnt_no (precondition_value (structure_of s) (picks_of action us) action.pre))
    (lists_of (structure_of s).individuals (length action.picks)) picked at passed) many)
pick-cause action s picked Individuals at (passed, large) =
    any-of (λ us. IsTooLarge action (structure_of s)) (passing_picks action (structure_of s)) picked
    (Contains-filter (λ us. isnt_no (precondition_value (structure_of s) (picks_of action us) action.pre))
    (lists_of (structure_of s).individuals (length action.picks)) picked at passed) large
pick-cause action s picked Memory at cause = tt

-- and for a structure at hand
pub hand-cause : (action : ActionForm) (ss : List StructureForm) (s : StructureForm) (e : StageError)
    → Contains ss s → IsCauseOfUpdate action s e → IsCauseOfUpdates action ss e
hand-cause action ss s Splits at cause = any-of (λ t. IsCauseOfUpdate action t Splits) ss s at cause
hand-cause action ss s Individuals at cause = any-of (λ t. IsCauseOfUpdate action t Individuals) ss s at cause
hand-cause action ss s Memory at cause = tt

-- ---- the precondition of an action of a valid program

module _ (p : ProgramForm) (valid : IsValid p) (action : ActionForm) (has : Contains p.actions action) where
  pub is-action : IsAction p action
  is-action = All-contains (IsAction p) p.actions action valid.actions has

  pub picked-in_range : All IsVariable action.picks
  picked-in_range = picks-in_range p action.pre action.picks is-action.precondition

  module _ (f : Form) (is : action.pre ≡ Some f) where
    precondition-is : IsPlainFormula p f × (action.picks ≡ first_occurrences (free_occurrences f))
    precondition-is = subst (λ pre. IsPrecondition p pre action.picks) is is-action.precondition

    pub precondition-over : (s : StructureForm) → IsShaped p s → IsFormulaOver (arities_of s) f
    precondition-over s shaped = subst (λ ns. IsFormulaOver ns f) (sym shaped.over) precondition-is.0.0

    pub precondition-assigned : (s : StructureForm) (places : List (Option ℕ))
        → All (IsAssigned s.size places) action.picks → AreAssigned s.size places f
    precondition-assigned s places picked v free =
        All-contains (IsAssigned s.size places) action.picks v picked
        (subst (λ vars. Contains vars v) (sym precondition-is.1)
        (first-occurs (free_occurrences f) v (free-occurs f v free)))

    pub precondition-low : height f ≤ program_height p
    precondition-low = (within_height p).preconditions action f has is

-- ---- the update

pub same-action : (program : Program) (n : ℕ) (action : ActionForm)
    → slice_get (program_of program).actions n ≡ Some action → action_at program n ≡ action
same-action program n action there =
    get_or_from_slice_get (program_of program).actions n action no_action there

pub given-shaped : (p : ProgramForm) (s : StructureForm) (ts : List StructureForm) → IsShaped p s
    → All (IsGivenOver s) ts → All (IsShaped p) ts
given-shaped p s ts shaped over k d lt =
    let is : IsGivenOver s (get_or ts k d) = over k d lt
    in record { over = is.over ∙ shaped.over; planes = is.is.table.planes; summaries = is.is.summaries }

-- where the precondition isn't No, what the action gives is what it gives at that value
pub gives-at : (k : K3) (p : ProgramForm) (mode : Mode) (action : ActionForm) (s : StructureForm)
    (picked : List ℕ) (ts : List StructureForm) → isnt_no k ≡ true → GivesStructures p mode action s picked ts
    → GivesAt k p mode action s picked ts
gives-at No p mode action s picked ts passes gives = absurd (false≢true passes)
gives-at Half p mode action s picked ts passes gives = gives
gives-at Yes p mode action s picked ts passes gives = gives

-- why an update fails, under an assignment that passes
pub update-fails : (action : ActionForm) (s : StructureForm) (a : Assignment) (e : StageError)
    → passes action s a ≡ true → IsUpdateCause action s a e → IsCauseOfPick action s a e
update-fails action s a Splits passed cause = (passed, cause.1)
update-fails action s a Individuals passed cause = (passed, cause.0)
update-fails action s a Memory passed cause = tt

pub answer-gives : {E : Type 0} (k : K3) (p : ProgramForm) (mode : Mode) (act action : ActionForm) (s : StructureForm)
    (a : Assignment) (r : Result (List StructureForm) E) → act ≡ action → IsShaped p s → isnt_no k ≡ true
    → IfOk r (λ ts. AreGiven p mode act (structure_of s) a (map structure_of ts)) → IfOk r (All (IsGivenOver s))
    → IfOk r (λ ts. (picked : List ℕ) → a ≡ picks_of action picked → GivesAt k p mode action s picked ts)
answer-gives k p mode act action s a (Ok ts) same shaped passed given over = λ picked is.
    gives-at k p mode action s picked ts passed (
      subst (λ b. AreGiven p mode action (structure_of s) b (map structure_of ts)) is
          (subst (λ x. AreGiven p mode x (structure_of s) a (map structure_of ts)) same given),
      given-shaped p s ts shaped over,
    )
answer-gives k p mode act action s a (Err e) same shaped passed given over = tt

-- ---- lists of individuals

pub list-count : (action : ActionForm) (s : StructureForm) (picked : List ℕ)
    → Contains (lists_of (structure_of s).individuals (length action.picks)) picked
    → length picked ≡ length action.picks
list-count action s picked at = (lists-inside (structure_of s).individuals (length action.picks) picked at).count

pub list-below : (action : ActionForm) (s : StructureForm) (picked : List ℕ)
    → Contains (lists_of (structure_of s).individuals (length action.picks)) picked → All (λ u. u < s.size) picked
list-below action s picked at =
    All-from_contains (λ u. u < s.size) picked
    (λ u there. below-range s.size u (All-contains (Contains (structure_of s).individuals) picked u
    (lists-inside (structure_of s).individuals (length action.picks) picked at).inside there))

pub half-passes : (k : K3) → (k ≡ Half) ⊎ (k ≡ Yes) → isnt_no k ≡ true
half-passes k (inl is) = ap isnt_no is
half-passes k (inr is) = ap isnt_no is

-- ---- the action of an edge of a valid program

pub focus-formulas : (p : ProgramForm) → IsValid p → (edge : ℕ) (action : ActionForm) → IsActionOf p edge action
    → All (IsFormula p) action.focus
focus-formulas p valid edge action its =
    let focus : All (IsPlainFormula p) action.focus
    = (is-action p valid action (slice_get-contains p.actions its.taken.action action its.its_action)).focus
    in All-from_contains (IsFormula p) action.focus
    (λ f there. (All-contains (IsPlainFormula p) action.focus f focus there).0)
