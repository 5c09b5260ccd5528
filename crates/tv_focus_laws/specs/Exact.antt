-- What vectors, sets of vectors and choices are, in words of their own.
use Rattle.std.specs.Prelude.{ℕ, ◌≡◌, ◌≢◌, ◌⊎◌, ◌↔◌, ◌<◌, ◌≤◌, Bool, false, List, [], ◌∷◌, length, map}
use Rattle.std.specs.Prelude.{Contains}
use Rattle.std.specs.List.{AllZip}
use Rattle.tv_kleene.specs.declared.K3.{K3}
use Rattle.tv_kleene.specs.declared.K3.TheVariants.{No, Half, Yes}
use Rattle.tv_kleene.specs.Kleene.{LiesUnder}
use Rattle.tv_embedding_laws.specs.LogicalStructure.{LogicalStructure}
use Rattle.tv_focus_laws.specs.Choices.{ChoiceForm, VectorSet, AimForm, aimed, vectors, sets_of, choices}

-- x is No or Yes, and agrees with the value k where that is definite
abbrev pub Sharpens : K3 → K3 → Type 0
Sharpens x k = (x ≢ Half) × LiesUnder x k

-- a vector for these values
abbrev pub IsVector : List K3 → List K3 → Type 0
IsVector ks vector = AllZip Sharpens vector ks

-- x stands before y in order, No before Yes
abbrev pub IsSmaller : K3 → K3 → Type 0
IsSmaller x y = (x ≡ No) × (y ≡ Yes)

-- one list before another: so is its element at the first place at which they differ
abbrev pub IsLexBefore : {X : Type 0} → (X → X → Type 0) → List X → List X → Type 0
IsLexBefore IsBefore [] ys = ⊥
IsLexBefore IsBefore (x ∷ xs) [] = ⊥
IsLexBefore IsBefore (x ∷ xs) (y ∷ ys) = IsBefore x y ⊎ ((x ≡ y) × IsLexBefore IsBefore xs ys)

-- each element stands before all later ones
abbrev pub AreBefore : {X : Type 0} → (X → X → Type 0) → List X → Type 0
AreBefore IsBefore [] = Unit {0}
AreBefore {X} IsBefore (x ∷ xs) = ((y : X) → Contains xs y → IsBefore x y) × AreBefore IsBefore xs

-- one vector before another: smaller at the first place at which they differ
abbrev pub IsEarlier : List K3 → List K3 → Type 0
IsEarlier v w = IsLexBefore IsSmaller v w

-- each vector stands before all later ones
abbrev pub AreInOrder : List (List K3) → Type 0
AreInOrder vs = AreBefore IsEarlier vs

-- one set before another: it has fewer vectors; or as many, and an earlier one at the first place at which
-- they differ
abbrev pub IsSetBefore : List (List K3) → List (List K3) → Type 0
IsSetBefore a b = (length a < length b) ⊎ ((length a ≡ length b) × IsLexBefore IsEarlier a b)

-- one choice before another: the first individual for which they differ has an earlier set. So of
-- neighbouring choices the last individual's sets differ first
abbrev pub IsChoiceBefore : ChoiceForm → ChoiceForm → Type 0
IsChoiceBefore a b = IsLexBefore IsSetBefore a b

-- a set of vectors for these values: some, and one where the individual is no summary; a set is written as
-- the list of its vectors in order
pub record IsVectorSet (summary : Bool) (ks : List K3) (set : List (List K3)) : Type 0 where
  pub some : 1 ≤ length set
  pub one : summary ≡ false → length set ≡ 1
  pub vectors : (v : List K3) → Contains set v → IsVector ks v
  pub order : AreInOrder set

-- a choice gives each individual such a set
abbrev pub IsChoice : LogicalStructure → (pred : ℕ) → AimForm → ChoiceForm → Type 0
IsChoice s pred aim choice =
    AllZip (λ u set. IsVectorSet (s.is_summary u) (map (s.value pred) (aimed aim u)) set) s.individuals choice

pub record ListsAreExact : Type 0 where
  pub listed_vectors : (ks v : List K3) → Contains (vectors ks) v ↔ IsVector ks v
  pub vector_order : (ks : List K3) → AreInOrder (vectors ks)
  pub listed_sets : (summary : Bool) (ks : List K3) (set : List (List K3)) → Contains (sets_of summary ks) set
      ↔ IsVectorSet summary ks set
  pub set_order : (summary : Bool) (ks : List K3) → AreBefore IsSetBefore (sets_of summary ks)
  pub listed_choices : (s : LogicalStructure) (pred : ℕ) (aim : AimForm) (choice : ChoiceForm)
      → Contains (choices s pred aim) choice ↔ IsChoice s pred aim choice
  pub choice_order : (s : LogicalStructure) (pred : ℕ) (aim : AimForm)
      → AreBefore IsChoiceBefore (choices s pred aim)
