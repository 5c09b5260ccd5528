-- What an embedding asks of one individual after the other.
use Rattle.std.specs.Prelude.{ℕ, ◌≡◌, ◌<◌, List, [], ◌∷◌, length, Some, slice_get, IsTrue, Contains}
use Rattle.tv_kleene.specs.Kleene.{LiesUnder}
use Rattle.tv_structure_form.specs.StructureForm.{StructureForm, arities_of, value_at, summary_at}
use Rattle.tv_embed.specs.Maps.{image_of}

-- a predicate of the tuple's arity has at the tuple below a value under that at the tuple above
abbrev pub ValueFits : (small large : StructureForm) → (pred : ℕ) → (below above : List ℕ) → Type 0
ValueFits small large pred below above =
    slice_get (arities_of small) pred ≡ Some (length below)
    → LiesUnder (value_at small pred below) (value_at large pred above)

-- and so does each predicate
abbrev pub TupleFits : (small large : StructureForm) → (below above : List ℕ) → Type 0
TupleFits small large below above = (pred : ℕ) → ValueFits small large pred below above

-- so has it at u, where it is unary, and at the pair of u with itself, where it is binary
abbrev pub ValueNearFits : (small large : StructureForm) → (pred u w : ℕ) → Type 0
ValueNearFits small large pred u w =
    ValueFits small large pred (u ∷ []) (w ∷ []) × ValueFits small large pred (u ∷ u ∷ []) (w ∷ w ∷ [])

-- u may go to w, as far as u alone is concerned
pub record IsCandidate (small large : StructureForm) (u w : ℕ) : Type 0 where
  pub summary : IsTrue (summary_at small u) → IsTrue (summary_at large w)
  pub values : TupleFits small large (u ∷ []) (w ∷ [])
  pub loops : TupleFits small large (u ∷ u ∷ []) (w ∷ w ∷ [])

-- u may go to w while x goes to y
pub record PairFits (small large : StructureForm) (u w x y : ℕ) : Type 0 where
  pub several : w ≡ y → IsTrue (summary_at large w)
  pub forth : TupleFits small large (u ∷ x ∷ []) (w ∷ y ∷ [])
  pub back : TupleFits small large (x ∷ u ∷ []) (y ∷ w ∷ [])

-- the next individual may go to w while those before it go to their images
abbrev pub JoinsUp : (small large : StructureForm) → (images : List ℕ) → (w : ℕ) → Type 0
JoinsUp small large images w =
    (x : ℕ) → x < length images → PairFits small large (length images) w x (image_of images x)

-- as far as the values of one predicate say
abbrev pub ValuesJoinUp : (small large : StructureForm) → (images : List ℕ) → (w pred : ℕ) → Type 0
ValuesJoinUp small large images w pred =
    (x : ℕ) → x < length images
    → ValueFits small large pred (length images ∷ x ∷ []) (w ∷ image_of images x ∷ [])
    × ValueFits small large pred (x ∷ length images ∷ []) (image_of images x ∷ w ∷ [])

-- the first individuals go to their images as in an embedding, as far as they alone are concerned
pub record FitsSoFar (small large : StructureForm) (images : List ℕ) : Type 0 where
  pub nullary : TupleFits small large [] []
  pub within : (u : ℕ) → u < length images → image_of images u < large.size
  pub candidates : (u : ℕ) → u < length images → IsCandidate small large u (image_of images u)
  pub pairs : (u x : ℕ) → u < length images → x < u
      → PairFits small large u (image_of images u) x (image_of images x)

-- each individual of large is an image
abbrev pub IsOnto : (large : StructureForm) → (images : List ℕ) → Type 0
IsOnto large images = (w : ℕ) → w < large.size → Contains images w
