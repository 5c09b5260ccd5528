-- What an abstract step makes of a structure (compare Sagiv, Reps and Wilhelm 2002, section 6): coerce,
-- focus, the messages, the precondition, the update, coerce again, and blur. Each part is a relation between
-- what is at hand before it and after it.
use Rattle.std.specs.Prelude.{ℕ, ◌≡◌, ◌⊎◌, ◌↔◌, List, [], ◌∷◌, length, map, flat_map, Some, All, Contains}
use Rattle.std.specs.Prelude.{slice_get}
use Rattle.std.specs.List.{range_with_len, AllZip}
use Rattle.std.specs.List.Sorted.{IsStrictlySortedBy}
use Rattle.tv_kleene.specs.declared.K3.{K3}
use Rattle.tv_model.specs.declared.program.Edge.{Edge}
use Rattle.tv_model.specs.declared.program.Mode.{Mode}
use Rattle.tv_model.specs.Form.{Form}
use Rattle.tv_model.specs.Program.{ProgramForm, ActionForm, MessageForm}
use Rattle.tv_model.specs.Rules.{blank}
use Rattle.tv_embedding_laws.specs.LogicalStructure.{LogicalStructure}
use Rattle.tv_eval_laws.specs.Value.{value}
use Rattle.tv_stable_laws.specs.Stable.{IsGreatestStable, HasNoStable}
use Rattle.tv_rules.specs.Closing.{closed_rules}
use Rattle.tv_row.specs.Bits.{greatest_in}
use Rattle.tv_struct.specs.Order.{structure_cmp}
use Rattle.tv_structure_form.specs.StructureForm.{StructureForm, structure_of}
use Rattle.tv_focus_laws.specs.FocusAtoms.{focus_atoms}
use Rattle.tv_focus_laws.specs.Stages.{stage}
use Rattle.tv_focus_laws.specs.Tables.{Shows}
use Rattle.tv_update_laws.specs.Choices.{AreGiven}
use Rattle.tv_update_laws.specs.Picks.{picks_of, passing_picks}
use Rattle.tv_blur.specs.Blur.{IsBlur}
use Rattle.tv_step_laws.specs.Parts.{AreFrom}
use Rattle.tv_step_laws.specs.Shaped.{IsShaped, telling_preds}

-- ---- coerce

-- t is the greatest structure below s that is stable under the program's closed rules, with the mark of s
pub record IsCoerced (p : ProgramForm) (s t : StructureForm) : Type 0 where
  pub greatest : IsGreatestStable (closed_rules p) (structure_of s) (structure_of t)
  pub shaped : IsShaped p t
  pub mark : t.fresh ≡ s.fresh

-- the structure is coerced, or dropped where no stable structure lies below it
abbrev pub Coerces : ProgramForm → StructureForm → List StructureForm → Type 0
Coerces p s ts =
    (HasNoStable (closed_rules p) (structure_of s) × (ts ≡ []))
    ⊎ ((t : StructureForm) × IsCoerced p s t × (ts ≡ t ∷ []))

-- ---- focus

-- an atom of a focus formula, by its number
pub record FocusPlace : Type 0 where
  pub formula : Form
  pub atom : ℕ

abbrev pub places_in : Form → List FocusPlace
places_in f = map (λ k. record { formula = f; atom = k }) (range_with_len 0 (length (focus_atoms f)))

-- the atoms of the formulas, formula by formula
abbrev pub focus_places : List Form → List FocusPlace
focus_places fs = flat_map places_in fs

-- the choices of the atom in the structure
abbrev pub choices_at : StructureForm → FocusPlace → List LogicalStructure
choices_at s place = stage (structure_of s) place.formula place.atom

-- t is the structure l in tables
abbrev pub IsTableOf : ProgramForm → StructureForm → LogicalStructure → Type 0
IsTableOf p t l = IsShaped p t × Shows t l

-- the structure is replaced by the atom's choices, and each of these is coerced or dropped
abbrev pub Focuses : ProgramForm → FocusPlace → StructureForm → List StructureForm → Type 0
Focuses p place s ts =
    (us : List StructureForm) × AllZip (IsTableOf p) us (choices_at s place) × AreFrom (Coerces p) us ts

-- the structures at hand after these atoms, of those at hand before
abbrev pub AreFocused : ProgramForm → List FocusPlace → List StructureForm → List StructureForm → Type 0
AreFocused p [] ss ts = ts ≡ ss
AreFocused p (place ∷ places) ss ts =
    (us : List StructureForm) × AreFrom (Focuses p place) ss us × AreFocused p places us ts

-- the structures at hand where these atoms are done: at first the coerced one alone
abbrev pub AreAtHand : ProgramForm → List FocusPlace → StructureForm → List StructureForm → Type 0
AreAtHand p places s ts = (cs : List StructureForm) × Coerces p s cs × AreFocused p places cs ts

-- ---- messages

-- the greatest value of the message's condition over the structures at hand, No over none
abbrev pub message_value : List StructureForm → MessageForm → K3
message_value ts m = greatest_in (map (λ t. value (structure_of t) blank m.cond) ts)

-- ---- precondition and update

-- the structures that the action gives from s under these picked individuals
abbrev pub GivesStructures : ProgramForm → Mode → ActionForm → StructureForm → (picked : List ℕ)
    → List StructureForm
    → Type 0
GivesStructures p mode action s picked ts =
    AreGiven p mode action (structure_of s) (picks_of action picked) (map structure_of ts)
    × All (IsShaped p) ts

-- under each choice of individuals to pick that passes the precondition, in lexicographic order
abbrev pub Updates : ProgramForm → Mode → ActionForm → StructureForm → List StructureForm → Type 0
Updates p mode action s ts =
    AreFrom (GivesStructures p mode action s) (passing_picks action (structure_of s)) ts

-- ---- blur

-- t is the blur of s
abbrev pub IsBlurOf : ProgramForm → StructureForm → StructureForm → Type 0
IsBlurOf p s t = IsShaped p t × IsBlur (telling_preds p) s t

-- the structure is coerced and blurred, or dropped
abbrev pub Finishes : ProgramForm → StructureForm → List StructureForm → Type 0
Finishes p s ts = (cs : List StructureForm) × Coerces p s cs × AllZip (IsBlurOf p) cs ts

-- ---- the step

-- the action of an edge, by the edge's number
pub record IsActionOf (p : ProgramForm) (edge : ℕ) (action : ActionForm) : Type 0 where
  pub taken : Edge
  pub its_edge : slice_get p.edges edge ≡ Some taken
  pub its_action : slice_get p.actions taken.action ≡ Some action

-- what a structure at hand gives
abbrev pub Steps : ProgramForm → Mode → ActionForm → StructureForm → List StructureForm → Type 0
Steps p mode action s ts = (us : List StructureForm) × Updates p mode action s us × AreFrom (Finishes p) us ts

-- the results of s along the edge: what the structures at hand give, in strict order
pub record AreResults (p : ProgramForm) (mode : Mode) (edge : ℕ) (s : StructureForm)
    (results : List StructureForm) : Type 0 where
  pub action : ActionForm
  pub its_action : IsActionOf p edge action
  pub at_hand : List StructureForm
  pub are_at_hand : AreAtHand p (focus_places action.focus) s at_hand
  pub given : List StructureForm
  pub are_given : AreFrom (Steps p mode action) at_hand given
  pub same : (t : StructureForm) → Contains results t ↔ Contains given t
  pub sorted : IsStrictlySortedBy structure_cmp results

-- t is one of the results
abbrev pub IsResult : ProgramForm → Mode → (edge : ℕ) → (s t : StructureForm) → Type 0
IsResult p mode edge s t = (results : List StructureForm) × AreResults p mode edge s results
    × Contains results t

-- the values of the action's messages, in order
pub record AreMessageValues (p : ProgramForm) (edge : ℕ) (s : StructureForm) (values : List K3) : Type 0 where
  pub action : ActionForm
  pub its_action : IsActionOf p edge action
  pub at_hand : List StructureForm
  pub are_at_hand : AreAtHand p (focus_places action.focus) s at_hand
  pub are : values ≡ map (message_value at_hand) action.messages

-- k is the value of the message with that number
abbrev pub IsMessageValue : ProgramForm → (edge : ℕ) → StructureForm → (number : ℕ) → K3 → Type 0
IsMessageValue p edge s number k = (values : List K3) × AreMessageValues p edge s values
    × (slice_get values number ≡ Some k)

-- ---- the opening

-- t is the opening of s: its coerced structure, blurred
abbrev pub IsOpening : ProgramForm → (s t : StructureForm) → Type 0
IsOpening p s t = (c : StructureForm) × IsCoerced p s c × IsBlurOf p c t

-- s has no opening: no stable structure lies below it
abbrev pub HasNoOpening : ProgramForm → StructureForm → Type 0
HasNoOpening p s = HasNoStable (closed_rules p) (structure_of s)
