-- What abstract steps reach: structures at nodes, and the derivations that lead to them (Sagiv, Reps and
-- Wilhelm 2002, section 6: the least set that is closed under the steps).
use Rattle.std.specs.Prelude.{ℕ, ◌≡◌, ◌≢◌, ◌<◌, List, [], ◌∷◌, length, Some, sum_by, Any, All, AllPairs}
use Rattle.std.specs.Prelude.{Contains, slice_get}
use Rattle.tv_model.specs.declared.program.Edge.{Edge}
use Rattle.tv_model.specs.declared.program.Mode.{Mode}
use Rattle.tv_model.specs.Program.{ProgramForm}
use Rattle.tv_listing.specs.ListingForm.{at_node}
use Rattle.tv_structure_form.specs.StructureForm.{StructureForm}
use Rattle.tv_step_laws.specs.Transfer.{IsOpening, IsResult}

-- a structure at a node
pub record Point : Type 0 where
  pub node : ℕ
  pub structure : StructureForm

-- the point's structure stands at its node
abbrev pub IsListed : List (List StructureForm) → Point → Type 0
IsListed listing x = Contains (at_node listing x.node) x.structure

-- the edge of this number leaves the first point's node, and the second is its target with a result
pub record Leads (p : ProgramForm) (mode : Mode) (edge : ℕ) (taken : Edge) (before after : Point) : Type 0
  where
    pub is_edge : slice_get p.edges edge ≡ Some taken
    pub leaves : taken.from ≡ before.node
    pub enters : after.node ≡ taken.to
    pub result : IsResult p mode edge before.structure after.structure

-- some edge leads from the first point to the second
abbrev pub Follows : ProgramForm → Mode → (before after : Point) → Type 0
Follows p mode before after = (edge : ℕ) × (taken : Edge) × Leads p mode edge taken before after

-- the start node with the opening of an initial structure
pub record IsStartPoint (p : ProgramForm) (initial : List StructureForm) (x : Point) : Type 0 where
  pub node : x.node ≡ 0
  pub opens : Any (λ s. IsOpening p s x.structure) initial

-- `before`, the nearest first, leads from a start to the point
abbrev pub IsDerivation : ProgramForm → Mode → (initial : List StructureForm) → Point → (before : List Point)
    → Type 0
IsDerivation p mode initial x [] = IsStartPoint p initial x
IsDerivation p mode initial x (b ∷ before) = Follows p mode b x × IsDerivation p mode initial b before

-- a derivation ends in the point
pub record IsReached (p : ProgramForm) (mode : Mode) (initial : List StructureForm) (x : Point) : Type 0 where
  pub before : List Point
  pub derivation : IsDerivation p mode initial x before

-- a derivation leads to the point through listed points alone
pub record IsReachedWithin (p : ProgramForm) (mode : Mode) (initial : List StructureForm)
    (listing : List (List StructureForm)) (x : Point) : Type 0 where
  pub before : List Point
  pub derivation : IsDerivation p mode initial x before
  pub listed : All (IsListed listing) before

-- more than `max` different points have the property: they stand in a listing, each once
pub record AreMoreThan (max : ℕ) (P : Point → Type 0) : Type 0 where
  pub found : List (List StructureForm)
  pub different : All (AllPairs (λ s t. s ≢ t)) found
  pub each : (x : Point) → IsListed found x → P x
  pub more : max < sum_by length found
