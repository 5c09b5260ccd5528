-- What is recorded of an abstract step: at each stage all that its definition gives, in order.
use Rattle.std.specs.Prelude.{ℕ, suc, ◌≡◌, ◌↔◌, List, [], ◌∷◌, ◌++◌, length, map, flat_map, Option, All}
use Rattle.std.specs.Prelude.{Contains}
use Rattle.std.specs.List.{AllZip}
use Rattle.std.specs.List.Sorted.{IsStrictlySortedBy}
use Rattle.tv_kleene.specs.declared.K3.{K3}
use Rattle.tv_kleene.specs.declared.K3.TheVariants.{No, Half, Yes}
use Rattle.tv_losses_unmet.specs.declared.claim.Claim.{Claim}
use Rattle.tv_losses_unmet.specs.Unmet.{IsFound}
use Rattle.tv_model.specs.declared.program.Mode.{Mode}
use Rattle.tv_model.specs.Form.{Form}
use Rattle.tv_model.specs.Program.{ProgramForm, ActionForm}
use Rattle.tv_rules.specs.Closing.{closed_rules}
use Rattle.tv_stable_laws.specs.Stable.{HasNoStable}
use Rattle.tv_struct.specs.Order.{structure_cmp}
use Rattle.tv_structure_form.specs.StructureForm.{StructureForm, structure_of}
use Rattle.tv_update_laws.specs.Picks.{lists_of, picks_of, precondition_value}
use Rattle.tv_step_laws.specs.Transfer.{IsCoerced, FocusPlace, places_in, choices_at, IsTableOf}
use Rattle.tv_step_laws.specs.Transfer.{GivesStructures, IsBlurOf, IsActionOf}
use Rattle.tv_stages_laws.specs.declared.record.End.{End}
use Rattle.tv_stages_laws.specs.declared.record.End.TheVariants.{Blurred, Lost}
use Rattle.tv_stages_laws.specs.declared.record.Fate.{Fate}
use Rattle.tv_stages_laws.specs.declared.record.Fate.TheVariants.{Kept, Dropped}
use Rattle.tv_stages_laws.specs.declared.record.FocusRow.{FocusRow}
use Rattle.tv_stages_laws.specs.declared.record.FocusedAt.{FocusedAt}
use Rattle.tv_stages_laws.specs.declared.record.PickedUpdate.{PickedUpdate}
use Rattle.tv_stages_laws.specs.declared.record.SlowStep.{SlowStep}
use Rattle.tv_stages_laws.specs.declared.record.UpdatedAt.{UpdatedAt}

-- ---- coerce

-- no stable structure lies below s, and the claim is the first declaration that leaves none alone, if one
-- does
abbrev pub IsDropped : ProgramForm → StructureForm → Option Claim → Type 0
IsDropped p s claim = HasNoStable (closed_rules p) (structure_of s) × IsFound p s claim

-- the structure is coerced to the one that is told, or dropped
abbrev pub IsFate : ProgramForm → StructureForm → Fate → Type 0
IsFate p s (Kept t) = IsCoerced p s t
IsFate p s (Dropped claim) = IsDropped p s claim

-- the structure that goes on, if one does
abbrev pub kept_by : Fate → List StructureForm
kept_by (Kept t) = t ∷ []
kept_by (Dropped claim) = []

-- ---- focus

-- an atom of a focus formula, and the number of the formula
pub record NumberedPlace : Type 0 where
  pub number : ℕ
  pub place : FocusPlace

-- the atoms of the formulas, formula by formula, where the first formula has this number
abbrev pub places_from : ℕ → List Form → List NumberedPlace
places_from n [] = []
places_from n (f ∷ fs) =
    map (λ place. record { number = n; place = place }) (places_in f) ++ places_from (suc n) fs

-- the choices are those of the atom in the structure at hand, and each is coerced or dropped
pub record IsFocusedAt (p : ProgramForm) (place : FocusPlace) (x : FocusedAt) : Type 0 where
  pub choices : AllZip (IsTableOf p) (map (λ c. c.structure) x.choices) (choices_at x.at_hand place)
  pub fates : All (λ c. IsFate p c.structure c.fate) x.choices

-- what goes on from there
abbrev pub kept_at : FocusedAt → List StructureForm
kept_at x = flat_map (λ c. kept_by c.fate) x.choices

-- the turn of the atom, where these structures are at hand
pub record IsFocusRow (p : ProgramForm) (turn : NumberedPlace) (ss : List StructureForm)
    (row : FocusRow) : Type 0 where
  pub formula : row.formula ≡ turn.number
  pub atom : row.atom ≡ turn.place.atom
  pub at_hand : map (λ x. x.at_hand) row.at_hand ≡ ss
  pub each : All (IsFocusedAt p turn.place) row.at_hand

-- what is at hand behind it
abbrev pub kept_behind : FocusRow → List StructureForm
kept_behind row = flat_map kept_at row.at_hand

-- the turns of these atoms, one after the other: ss are at hand before the first, ts behind the last
abbrev pub AreFocusRows : ProgramForm → List NumberedPlace → (ss : List StructureForm) → List FocusRow
    → (ts : List StructureForm) → Type 0
AreFocusRows p [] ss rows ts = (rows ≡ []) × (ts ≡ ss)
AreFocusRows p (turn ∷ turns) ss [] ts = ⊥
AreFocusRows p (turn ∷ turns) ss (row ∷ rows) ts =
    IsFocusRow p turn ss row × AreFocusRows p turns (kept_behind row) rows ts

-- ---- precondition, update and blur

-- the structure is coerced and blurred to the ones that are told, or dropped
abbrev pub IsEndFrom : ProgramForm → StructureForm → End → Type 0
IsEndFrom p s (Blurred coerced blurred) = IsCoerced p s coerced × IsBlurOf p coerced blurred
IsEndFrom p s (Lost claim) = IsDropped p s claim

-- the blurred structure, if there is one
abbrev pub ended_by : End → List StructureForm
ended_by (Blurred coerced blurred) = blurred ∷ []
ended_by (Lost claim) = []

-- what the action gives from s under picked individuals for which the precondition has this value
abbrev pub GivesAt : K3 → ProgramForm → Mode → ActionForm → StructureForm → (picked : List ℕ)
    → List StructureForm → Type 0
GivesAt No p mode action s picked ts = ts ≡ []
GivesAt Half p mode action s picked ts = GivesStructures p mode action s picked ts
GivesAt Yes p mode action s picked ts = GivesStructures p mode action s picked ts

-- the value of the precondition for the picked individuals, what the action gives, and what becomes of it
pub record IsPickedUpdate (p : ProgramForm) (mode : Mode) (action : ActionForm) (s : StructureForm)
    (x : PickedUpdate) : Type 0 where
  pub value : x.value ≡ precondition_value (structure_of s) (picks_of action x.individuals) action.pre
  pub gives : GivesAt x.value p mode action s x.individuals (map (λ g. g.structure) x.given)
  pub ends : All (λ g. IsEndFrom p g.structure g.end) x.given

-- all lists of individuals to pick in the structure at hand, in lexicographic order
pub record IsUpdatedAt (p : ProgramForm) (mode : Mode) (action : ActionForm)
    (x : UpdatedAt) : Type 0 where
  pub picks : map (λ u. u.individuals) x.picks
      ≡ lists_of (structure_of x.at_hand).individuals (length action.picks)
  pub each : All (IsPickedUpdate p mode action x.at_hand) x.picks

-- ---- the step

-- the blurred structures that the stages end in, in order
abbrev pub ends_of : List UpdatedAt → List StructureForm
ends_of updates = flat_map (λ x. flat_map (λ u. flat_map (λ g. ended_by g.end) u.given) x.picks) updates

-- the stages of the step of s along the edge
pub record AreStages (p : ProgramForm) (mode : Mode) (edge : ℕ) (s : StructureForm)
    (step : SlowStep) : Type 0 where
  pub action : ActionForm
  pub its_action : IsActionOf p edge action
  pub begins : IsFate p s step.start
  pub at_hand : List StructureForm
  pub focused : AreFocusRows p (places_from 0 action.focus) (kept_by step.start) step.focus at_hand
  pub updated : map (λ x. x.at_hand) step.updates ≡ at_hand
  pub each : All (IsUpdatedAt p mode action) step.updates

-- the stages, and what they end in, in strict order
pub record IsSlowStep (p : ProgramForm) (mode : Mode) (edge : ℕ) (s : StructureForm)
    (step : SlowStep) : Type 0 where
  pub stages : AreStages p mode edge s step
  pub same : (t : StructureForm) → Contains step.results t ↔ Contains (ends_of step.updates) t
  pub sorted : IsStrictlySortedBy structure_cmp step.results
