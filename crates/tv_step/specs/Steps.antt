-- What the parts of a step do, in the code's words.
use Rattle.std.specs.Prelude.{ℕ, ◌≡◌, ◌<◌, ◌≤◌, ◌⊎◌, ◌↔◌, Bool, true, false, List, [], ◌∷◌, ◌++◌, length, map}
use Rattle.std.specs.Prelude.{Any, All, Contains}
use Rattle.std.specs.List.Sorted.{IsStrictlySortedBy}
use Rattle.tv_kleene.specs.declared.K3.{K3}
use Rattle.tv_model.specs.declared.program.Mode.{Mode}
use Rattle.tv_model.specs.Form.{Form, height}
use Rattle.tv_model.specs.Program.{ProgramForm, ActionForm}
use Rattle.tv_model.specs.Truth.{Assignment, put_all}
use Rattle.tv_model.specs.Valid.{IsFormula}
use Rattle.tv_eval.specs.ScratchForm.{program_height}
use Rattle.tv_focus_laws.specs.FocusAtoms.{focus_atoms}
use Rattle.tv_focus.specs.Stage.{IsWithinLimits as KeepsStageLimits}
use Rattle.tv_struct.specs.Order.{structure_cmp}
use Rattle.tv_structure_form.specs.StructureForm.{StructureForm, IsStructure, structure_of}
use Rattle.tv_struct.specs.declared.analysis.StageError.{StageError}
use Rattle.tv_struct.specs.declared.analysis.StageError.TheVariants.{Splits, Individuals, Memory}
use Rattle.tv_update_laws.specs.Choices.{AreGiven}
use Rattle.tv_update_laws.specs.Picks.{picks_of, lists_of, passing_picks, isnt_no, precondition_value}
use Rattle.tv_update_laws.specs.Tables.{HasManyChoices, IsTooLarge}
use Rattle.tv_update.specs.Update.{IsWithinLimits}
use Rattle.tv_step_laws.specs.Parts.{AreFrom}
use Rattle.tv_step_laws.specs.Shaped.{IsShaped}
use Rattle.tv_step_laws.specs.Transfer.{FocusPlace, focus_places, choices_at, Focuses, AreFocused}
use Rattle.tv_step_laws.specs.Transfer.{message_value, Finishes, Steps}

-- what R makes of x is put behind the others
abbrev pub Adds : {X Y : Type 0} → (X → List Y → Type 0) → X → (old new : List Y) → Type 0
Adds {X} {Y} R x old new = (own : List Y) × R x own × (new ≡ old ++ own)

-- the formula is no higher than those of the program
abbrev pub HasRoomFor : ProgramForm → Form → Type 0
HasRoomFor p f = height f ≤ program_height p

-- ---- focus

-- the place is that of an atom of a formula over the program
pub record IsPlace (p : ProgramForm) (place : FocusPlace) : Type 0 where
  pub formula : IsFormula p place.formula
  pub atom : place.atom < length (focus_atoms place.formula)

-- the atom keeps the limits in each of the structures
abbrev pub KeepsLimits : FocusPlace → List StructureForm → Type 0
KeepsLimits place ss = All (λ s. KeepsStageLimits s place.formula place.atom) ss

-- why an atom can't be focused in one of the structures
abbrev pub IsFocusCause : FocusPlace → List StructureForm → StageError → Type 0
IsFocusCause place ss Splits = Any (λ s. 4096 < length (choices_at s place)) ss
IsFocusCause place ss Individuals = Any (λ s. Any (λ l. 256 < length l.individuals) (choices_at s place)) ss
IsFocusCause place ss Memory = Unit {0}

-- focus on these atoms, each of which keeps the limits
abbrev pub AreFocusedWithin : ProgramForm → List FocusPlace → List StructureForm → List StructureForm → Type 0
AreFocusedWithin p [] ss ts = ts ≡ ss
AreFocusedWithin p (place ∷ places) ss ts =
    (us : List StructureForm) × AreFrom (Focuses p place) ss us × KeepsLimits place ss
    × AreFocusedWithin p places us ts

-- why the atoms can't be focused: there is a cause where the turn of one comes
pub record FailsAt (p : ProgramForm) (places : List FocusPlace) (ss : List StructureForm)
    (cause : FocusPlace → List StructureForm → Type 0) : Type 0 where
  pub before : List FocusPlace
  pub place : FocusPlace
  pub after : List FocusPlace
  pub turn : places ≡ before ++ place ∷ after
  pub at_hand : List StructureForm
  pub are_focused : AreFocused p before ss at_hand
  pub is_cause : cause place at_hand

abbrev pub IsCauseOfFocus : ProgramForm → List FocusPlace → List StructureForm → StageError → Type 0
IsCauseOfFocus p places ss Splits = FailsAt p places ss (λ place ts. IsFocusCause place ts Splits)
IsCauseOfFocus p places ss Individuals = FailsAt p places ss (λ place ts. IsFocusCause place ts Individuals)
IsCauseOfFocus p places ss Memory = Unit {0}

-- ---- updates

-- what is given is coerced and blurred, and keeps the limits of tables
abbrev pub Ends : ProgramForm → StructureForm → List StructureForm → Type 0
Ends p s ts = Finishes p s ts × All IsStructure ts

-- whether the individuals that the picked variables stand for pass the precondition
abbrev pub passes : ActionForm → StructureForm → Assignment → Bool
passes action s a = isnt_no (precondition_value (structure_of s) a action.pre)

-- what the action gives from s under the assignment, coerced and blurred
pub record GivesEnds (p : ProgramForm) (mode : Mode) (action : ActionForm) (s : StructureForm)
    (a : Assignment)
    (ts : List StructureForm) : Type 0 where
  pub given : List StructureForm
  pub are_given : AreGiven p mode action (structure_of s) a (map structure_of given)
  pub shaped : All (IsShaped p) given
  pub ends : AreFrom (Ends p) given ts

-- the same, and nothing where the assignment doesn't pass
abbrev pub PickGives : ProgramForm → Mode → ActionForm → StructureForm → Assignment → List StructureForm
    → Type 0
PickGives p mode action s a ts =
    ((passes action s a ≡ false) × (ts ≡ [])) ⊎ ((passes action s a ≡ true) × GivesEnds p mode action s a ts)

-- the same for each list of individuals that is put for the variables, in lexicographic order
abbrev pub PicksGive : ProgramForm → Mode → ActionForm → StructureForm → (vars : List ℕ) → Assignment
    → List StructureForm → Type 0
PicksGive p mode action s vars a ts =
    AreFrom (λ us own. PickGives p mode action s (put_all a vars us) own)
    (lists_of (structure_of s).individuals (length vars)) ts

-- the update keeps its limits, if the assignment passes
abbrev pub PickKeepsLimits : ActionForm → StructureForm → Assignment → Type 0
PickKeepsLimits action s a = passes action s a ≡ true → IsWithinLimits action s a

-- and under each such list
abbrev pub PicksKeepLimits : ActionForm → StructureForm → (vars : List ℕ) → Assignment → Type 0
PicksKeepLimits action s vars a =
    All (λ us. PickKeepsLimits action s (put_all a vars us))
    (lists_of (structure_of s).individuals (length vars))

-- why the update fails under an assignment that passes
abbrev pub IsCauseOfPick : ActionForm → StructureForm → Assignment → StageError → Type 0
IsCauseOfPick action s a Splits = (passes action s a ≡ true) × HasManyChoices action (structure_of s) a
IsCauseOfPick action s a Individuals = (passes action s a ≡ true) × IsTooLarge action (structure_of s)
IsCauseOfPick action s a Memory = Unit {0}

-- under one of the lists
abbrev pub IsCauseOfPicks : ActionForm → StructureForm → (vars : List ℕ) → Assignment → StageError → Type 0
IsCauseOfPicks action s vars a Splits =
    Any (λ us. IsCauseOfPick action s (put_all a vars us) Splits)
    (lists_of (structure_of s).individuals (length vars))
IsCauseOfPicks action s vars a Individuals =
    Any (λ us. IsCauseOfPick action s (put_all a vars us) Individuals)
    (lists_of (structure_of s).individuals (length vars))
IsCauseOfPicks action s vars a Memory = Unit {0}

-- the step of s, with the limits of tables
abbrev pub StepsIn : ProgramForm → Mode → ActionForm → StructureForm → List StructureForm → Type 0
StepsIn p mode action s ts = Steps p mode action s ts × All IsStructure ts

-- the updates of s keep the limits, under each list of individuals that passes the precondition
pub record KeepsUpdateLimits (action : ActionForm) (s : StructureForm) : Type 0 where
  pub few_picks : length (lists_of (structure_of s).individuals (length action.picks)) ≤ 4096
  pub within : All (λ picked. IsWithinLimits action s (picks_of action picked))
      (passing_picks action (structure_of s))

-- why there is no update of s
abbrev pub IsCauseOfUpdate : ActionForm → StructureForm → StageError → Type 0
IsCauseOfUpdate action s Splits =
    (4096 < length (lists_of (structure_of s).individuals (length action.picks)))
    ⊎ Any (λ picked. HasManyChoices action (structure_of s) (picks_of action picked))
    (passing_picks action (structure_of s))
IsCauseOfUpdate action s Individuals =
    Any (λ picked. IsTooLarge action (structure_of s)) (passing_picks action (structure_of s))
IsCauseOfUpdate action s Memory = Unit {0}

abbrev pub IsCauseOfUpdates : ActionForm → List StructureForm → StageError → Type 0
IsCauseOfUpdates action ss Splits = Any (λ s. IsCauseOfUpdate action s Splits) ss
IsCauseOfUpdates action ss Individuals = Any (λ s. IsCauseOfUpdate action s Individuals) ss
IsCauseOfUpdates action ss Memory = Unit {0}

-- ---- the step

-- the results of structures that are coerced, and what is at hand on the way
pub record AreResultsOf (p : ProgramForm) (mode : Mode) (action : ActionForm) (start : List StructureForm)
    (results : List StructureForm) : Type 0 where
  pub at_hand : List StructureForm
  pub are_focused : AreFocused p (focus_places action.focus) start at_hand
  pub given : List StructureForm
  pub are_given : AreFrom (Steps p mode action) at_hand given
  pub same : (t : StructureForm) → Contains results t ↔ Contains given t
  pub sorted : IsStrictlySortedBy structure_cmp results
  pub kept : All IsStructure results
  pub within_focus : AreFocusedWithin p (focus_places action.focus) start at_hand
  pub within_updates : All (KeepsUpdateLimits action) at_hand

pub record AreValuesOf (p : ProgramForm) (action : ActionForm) (start : List StructureForm)
    (values : List K3) : Type 0 where
  pub at_hand : List StructureForm
  pub are_focused : AreFocused p (focus_places action.focus) start at_hand
  pub are : values ≡ map (message_value at_hand) action.messages

-- why there are no results of them
pub record FailsToUpdate (p : ProgramForm) (action : ActionForm) (start : List StructureForm)
    (e : StageError) : Type 0 where
  pub at_hand : List StructureForm
  pub are_focused : AreFocused p (focus_places action.focus) start at_hand
  pub is_cause : IsCauseOfUpdates action at_hand e

abbrev pub IsCauseOfStep : ProgramForm → ActionForm → List StructureForm → StageError → Type 0
IsCauseOfStep p action start e =
    IsCauseOfFocus p (focus_places action.focus) start e ⊎ FailsToUpdate p action start e
