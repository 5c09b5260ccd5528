-- Budgets of a step: how many choices one stage may have, and how many individuals one structure.
use Rattle.std.specs.Prelude.{ℕ, ◌≡◌, ◌⊎◌, ◌<◌, List, ◌∷◌, ◌++◌, length, Any, Contains}
use Rattle.tv_model.specs.Program.{ProgramForm, ActionForm}
use Rattle.tv_structure_form.specs.StructureForm.{StructureForm, structure_of}
use Rattle.tv_struct.specs.declared.analysis.StageError.{StageError}
use Rattle.tv_struct.specs.declared.analysis.StageError.TheVariants.{Splits, Individuals, Memory}
use Rattle.tv_update_laws.specs.Picks.{picks_of, lists_of, passing_picks}
use Rattle.tv_update_laws.specs.Tables.{HasManyChoices, IsTooLarge}
use Rattle.tv_step_laws.specs.Transfer.{FocusPlace, focus_places, choices_at, AreAtHand, IsActionOf}

-- t is a structure at hand where the atom's turn comes
pub record HasTurn (p : ProgramForm) (action : ActionForm) (s : StructureForm) (place : FocusPlace)
    (t : StructureForm) : Type 0 where
  pub before : List FocusPlace
  pub after : List FocusPlace
  pub turn : focus_places action.focus ≡ before ++ place ∷ after
  pub at_hand : List StructureForm
  pub are_at_hand : AreAtHand p before s at_hand
  pub there : Contains at_hand t

-- t is a structure at hand after focus
abbrev pub IsFocused : ProgramForm → ActionForm → (s t : StructureForm) → Type 0
IsFocused p action s t =
    (at_hand : List StructureForm) × AreAtHand p (focus_places action.focus) s at_hand × Contains at_hand t

-- and these individuals pass the precondition there
pub record IsPassed (p : ProgramForm) (action : ActionForm) (s t : StructureForm)
    (picked : List ℕ) : Type 0 where
  pub is_focused : IsFocused p action s t
  pub passes : Contains (passing_picks action (structure_of t)) picked

-- a focus atom has too many choices in a structure at hand
abbrev pub HasManyFoci : ProgramForm → ActionForm → StructureForm → Type 0
HasManyFoci p action s =
    (place : FocusPlace) × (t : StructureForm) × HasTurn p action s place t
    × (4096 < length (choices_at t place))

-- there are too many lists of individuals to pick, whether or not they pass the precondition
abbrev pub HasManyPicks : ProgramForm → ActionForm → StructureForm → Type 0
HasManyPicks p action s =
    (t : StructureForm) × IsFocused p action s t
    × (4096 < length (lists_of (structure_of t).individuals (length action.picks)))

-- there are too many choices of the individuals that stay in an update
abbrev pub HasManyKept : ProgramForm → ActionForm → StructureForm → Type 0
HasManyKept p action s =
    (t : StructureForm) × (picked : List ℕ) × IsPassed p action s t picked
    × HasManyChoices action (structure_of t) (picks_of action picked)

-- the step of s along the edge meets the budget of choices: a stage of it has over 4,096
pub record MeetsSplits (p : ProgramForm) (edge : ℕ) (s : StructureForm) : Type 0 where
  pub action : ActionForm
  pub its_action : IsActionOf p edge action
  pub many : HasManyFoci p action s ⊎ HasManyPicks p action s ⊎ HasManyKept p action s

-- a choice of a focus atom has too many individuals
abbrev pub HasLargeChoice : ProgramForm → ActionForm → StructureForm → Type 0
HasLargeChoice p action s =
    (place : FocusPlace) × (t : StructureForm) × HasTurn p action s place t
    × Any (λ l. 256 < length l.individuals) (choices_at t place)

-- the middle structure of an update has
abbrev pub HasLargeMiddle : ProgramForm → ActionForm → StructureForm → Type 0
HasLargeMiddle p action s =
    (t : StructureForm) × (picked : List ℕ) × IsPassed p action s t picked
    × IsTooLarge action (structure_of t)

-- the step meets the budget of individuals: a structure that it makes has over 256
pub record MeetsIndividuals (p : ProgramForm) (edge : ℕ) (s : StructureForm) : Type 0 where
  pub action : ActionForm
  pub its_action : IsActionOf p edge action
  pub large : HasLargeChoice p action s ⊎ HasLargeMiddle p action s

-- the step keeps both budgets
pub record KeepsBudgets (p : ProgramForm) (edge : ℕ) (s : StructureForm) : Type 0 where
  pub splits : ¬ MeetsSplits p edge s
  pub individuals : ¬ MeetsIndividuals p edge s

-- why a step has no answer
abbrev pub IsStepCause : ProgramForm → (edge : ℕ) → StructureForm → StageError → Type 0
IsStepCause p edge s Splits = MeetsSplits p edge s
IsStepCause p edge s Individuals = MeetsIndividuals p edge s
IsStepCause p edge s Memory = Unit {0}
