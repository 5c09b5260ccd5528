-- Maps of the first individuals, one individual after the other.
use Rattle.std.proofs.Common.{ℕ, ◌≡◌, ◌<◌, ◌≤◌, ◌+◌, ◌⊎◌, inl, inr, List, [], ◌∷◌, ◌++◌, ap, get_or, length}
use Rattle.std.proofs.Common.{take, refl}
use Rattle.std.proofs.Common.{sym, subst, ◌∙◌, arith}
use Rattle.std.specs.Prelude.{Contains, IsTrue, ◌↔◌}
use Rattle.std.proofs.lemmas.Bool.{cases_lt}
use Rattle.std.proofs.lemmas.List.{get_or_append_left, get_or_push, length_push, get_or-take, get_or_default}
use Rattle.std.proofs.lemmas.List.{length-take-le}
use Rattle.tv_kleene.specs.declared.K3.{K3}
use Rattle.tv_kleene.specs.declared.K3.TheVariants.{No}
use Rattle.tv_kleene.specs.Kleene.{LiesUnder}
use Rattle.tv_structure_form.specs.StructureForm.{StructureForm, summary_at, value_at}
use Rattle.tv_struct.specs.StructureRows.{row_at}
use Rattle.tv_struct.proofs.Library.{get_or-row_at}
use Rattle.tv_embed.specs.Maps.{image_of}
use Rattle.tv_embed.specs.Fits.{IsCandidate, PairFits, JoinsUp, FitsSoFar}

-- ---- rows of a binary predicate

-- a value of one row lies under a value of another exactly where these values of the structures do
pub rows-under : (small large : StructureForm) (p u w x y : ℕ) (below above : List K3) (k l : K3) → below ≡ row_at small p u
    → above ≡ row_at large p w → x < small.size → y < large.size → k ≡ get_or below x No → l ≡ get_or above y No
    → LiesUnder k l ↔ LiesUnder (value_at small p (u ∷ x ∷ [])) (value_at large p (w ∷ y ∷ []))
rows-under small large p u w x y below above k l is_below is_above x_in y_in at_x at_y =
    let low : k ≡ value_at small p (u ∷ x ∷ []) = at_x ∙ ap (λ row. get_or row x No) is_below ∙ get_or-row_at small p u x x_in
    in let high : l ≡ value_at large p (w ∷ y ∷ []) = at_y ∙ ap (λ row. get_or row y No) is_above ∙ get_or-row_at large p w y y_in
    in (λ under. rw (← low, ← high) under, λ under. rw (low, high) under)

-- ---- images

image-before : (images : List ℕ) (w u : ℕ) → u < length images → image_of images u ≡ image_of (images ++ w ∷ []) u
image-before images w u lt = sym (get_or_append_left images (w ∷ []) 0 u lt)

image-last : (images : List ℕ) (w u : ℕ) → u ≡ length images → w ≡ image_of (images ++ w ∷ []) u
image-last images w u e = sym (get_or_push images w 0 u (sym e))

-- one individual more
pub FitsSoFar-push : (small large : StructureForm) (images : List ℕ) (w : ℕ) → FitsSoFar small large images → w < large.size
    → IsCandidate small large (length images) w → JoinsUp small large images w
    → FitsSoFar small large (images ++ w ∷ [])
FitsSoFar-push small large images w fits lt candidate joins = record {
  nullary = fits.nullary;
  within = λ u below. within u (last_or_before u below);
  candidates = λ u below. candidates u (last_or_before u below);
  pairs = λ u x below before. pairs u x before (last_or_before u below);
}
  where
    last_or_before : (u : ℕ) → u < length (images ++ w ∷ []) → (u < length images) ⊎ (u ≡ length images)
    last_or_before u below =
        let count : length (images ++ w ∷ []) ≡ length images + 1 = length_push images w
        in elim (cases_lt u (length images)) [ inl before ↦ inl before | inr after ↦ inr (omega arith) ]

    within : (u : ℕ) → (u < length images) ⊎ (u ≡ length images) → image_of (images ++ w ∷ []) u < large.size
    within u (inl before) = let P : ℕ → Type 0 = λ y. y < large.size in subst P (image-before images w u before) (fits.within u before)
    within u (inr last) = let P : ℕ → Type 0 = λ y. y < large.size in subst P (image-last images w u last) lt

    candidates : (u : ℕ) → (u < length images) ⊎ (u ≡ length images) → IsCandidate small large u (image_of (images ++ w ∷ []) u)
    candidates u (inl before) =
        let P : ℕ → Type 0 = λ y. IsCandidate small large u y in subst P (image-before images w u before) (fits.candidates u before)
    candidates u (inr last) =
        let P : ℕ → Type 0 = λ y. IsCandidate small large u y
        in let Q : ℕ → Type 0 = λ x. IsCandidate small large x w
        in subst P (image-last images w u last) (subst Q (sym last) candidate)

    pairs : (u x : ℕ) → x < u → (u < length images) ⊎ (u ≡ length images)
        → PairFits small large u (image_of (images ++ w ∷ []) u) x (image_of (images ++ w ∷ []) x)
    pairs u x before (inl old) =
        let P : ℕ → Type 0 = λ y. PairFits small large u y x (image_of (images ++ w ∷ []) x)
        in let Q : ℕ → Type 0 = λ y. PairFits small large u (image_of images u) x y
        in subst P (image-before images w u old) (subst Q (image-before images w x (omega arith)) (fits.pairs u x old before))
    pairs u x before (inr last) =
        let P : ℕ → Type 0 = λ y. PairFits small large u y x (image_of (images ++ w ∷ []) x)
        in let Q : ℕ → Type 0 = λ y. PairFits small large u w x y
        in let R : ℕ → Type 0 = λ y. PairFits small large y w x (image_of images x)
        in subst P (image-last images w u last)
        (subst Q (image-before images w x (omega arith)) (subst R (sym last) (joins x (omega arith))))

pub FitsSoFar-joins : (small large : StructureForm) (images : List ℕ) (w : ℕ) → FitsSoFar small large (images ++ w ∷ [])
    → JoinsUp small large images w
FitsSoFar-joins small large images w fits x lt =
    let P : ℕ → Type 0 = λ y. PairFits small large (length images) y x (image_of images x)
    in let Q : ℕ → Type 0 = λ y. PairFits small large (length images) (image_of (images ++ w ∷ []) (length images)) x y
    in subst P (sym (image-last images w (length images) refl))
    (subst Q (sym (image-before images w x lt))
    (fits.pairs (length images) x (rw (length_push images w) (omega arith)) lt))

-- what fits, fits in front
pub FitsSoFar-take : (small large : StructureForm) (images : List ℕ) (n : ℕ) → n ≤ length images → FitsSoFar small large images
    → FitsSoFar small large (take n images)
FitsSoFar-take small large images n le fits = record {
  nullary = fits.nullary;
  within = λ u lt. let P : ℕ → Type 0 = λ y. y < large.size in subst P (same u (below u lt)) (fits.within u (omega (arith, below u lt)));
  candidates = λ u lt.
      let P : ℕ → Type 0 = λ y. IsCandidate small large u y
      in subst P (same u (below u lt)) (fits.candidates u (omega (arith, below u lt)));
  pairs = λ u x lt before.
      let P : ℕ → Type 0 = λ y. PairFits small large u y x (image_of (take n images) x)
      in let Q : ℕ → Type 0 = λ y. PairFits small large u (image_of images u) x y
      in subst P (same u (below u lt))
      (subst Q (same x (omega (arith, below u lt))) (fits.pairs u x (omega (arith, below u lt)) before));
}
  where
    below : (u : ℕ) → u < length (take n images) → u < n
    below u lt = let count : length (take n images) ≡ n = length-take-le n images le in omega arith

    same : (u : ℕ) → u < n → image_of images u ≡ image_of (take n images) u
    same u lt = sym (get_or-take n images u 0 lt)

-- nothing joins up with an ordinary individual that is an image already
pub joins-taken : (small large : StructureForm) (images : List ℕ) (w : ℕ) → Contains images w → ¬ IsTrue (summary_at large w)
    → JoinsUp small large images w → ⊥
joins-taken small large images w (x, lt, at) ordinary joins =
    ordinary ((joins x lt).several (sym (get_or_default images x 0 w lt ∙ at)))
