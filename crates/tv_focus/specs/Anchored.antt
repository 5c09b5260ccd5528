-- Pairs with an anchor, and atoms over a vocabulary.
use Rattle.std.specs.Prelude.{ℕ, ◌≡◌, ◌<◌, List, [], ◌∷◌, length, Some, All, fold, slice_get, slice_index_or}
use Rattle.std.specs.List.{list_any}
use Rattle.tv_kleene.specs.declared.K3.{K3}
use Rattle.tv_kleene.specs.declared.K3.TheVariants.{No}
use Rattle.tv_kleene.specs.Kleene.{is_yes}
use Rattle.tv_embedding_laws.specs.LogicalStructure.{LogicalStructure}
use Rattle.tv_model.specs.Form.{Form}
use Rattle.tv_focus_laws.specs.FocusAtoms.{AtomForm, AnchorsForm, focus_atoms, by_unary}
use Rattle.tv_focus_laws.specs.Choices.{AimForm, Alone, Before, Behind, SplitForm, Nothing, Whole, Each}
use Rattle.tv_structure_form.specs.StructureForm.{StructureForm, arities_of, value_at}
use Rattle.tv_focus.specs.declared.anchors.Place.{Place}
use Rattle.tv_focus.specs.declared.anchors.Place.TheVariants.{First, Second}

-- the pair of an anchor in that place and an individual in the other
abbrev pub pair_of : Place → (anchor individual : ℕ) → List ℕ
pair_of First a u = a ∷ u ∷ []
pair_of Second a u = u ∷ a ∷ []

-- the atom has a predicate of its number of places
abbrev pub IsAtomOver : (arities : List ℕ) → AtomForm → Type 0
IsAtomOver arities atom = slice_get arities atom.pred ≡ Some (length atom.vars)

-- the focus atoms of the formula are so
abbrev pub AreAtomsOver : (arities : List ℕ) → Form → Type 0
AreAtomsOver arities f = All (IsAtomOver arities) (focus_atoms f)

-- the anchors are individuals of a structure of that size
abbrev pub AreWithin : (size : ℕ) → List AnchorsForm → Type 0
AreWithin size given = All (λ one. All (λ u. u < size) one.anchors) given

-- the anchors that unary atoms give
abbrev pub given_by_unary : LogicalStructure → List AtomForm → List AnchorsForm
given_by_unary s atoms = fold (λ given atom. by_unary s given atom.pred atom.vars) [] atoms

-- the predicate has the aim's places, and the anchors are individuals
abbrev pub IsAimOver : StructureForm → (pred : ℕ) → AimForm → Type 0
IsAimOver s pred Alone = slice_get (arities_of s) pred ≡ Some 1
IsAimOver s pred (Before anchors) = (slice_get (arities_of s) pred ≡ Some 2) × All (λ a. a < s.size) anchors
IsAimOver s pred (Behind anchors) = (slice_get (arities_of s) pred ≡ Some 2) × All (λ a. a < s.size) anchors

-- the predicate has the split's places
abbrev pub IsSplitOver : StructureForm → (pred : ℕ) → SplitForm → Type 0
IsSplitOver s pred Nothing = Unit {0}
IsSplitOver s pred Whole = slice_get (arities_of s) pred ≡ Some 0
IsSplitOver s pred (Each aim) = IsAimOver s pred aim

-- the row is Yes exactly where the predicate is, on the individual together with one of the anchors
pub record IsReached (s : StructureForm) (pred : ℕ) (place : Place) (anchors : List ℕ)
    (row : List K3) : Type 0 where
  pub long : length row ≡ s.size
  pub yes : (u : ℕ) → u < s.size
      → is_yes (slice_index_or row u No)
      ≡ list_any (λ a. is_yes (value_at s pred (pair_of place a u))) anchors
