-- Individuals that can no longer be reached.
use Rattle.std.proofs.Common.{ℕ, ◌≡◌, ◌<◌, ◌≤◌, ◌+◌, ◌⊎◌, inl, inr, List, length, get_or, set, refl, sym, ap}
use Rattle.std.proofs.Common.{subst, ◌∙◌, arith}
use Rattle.std.specs.Prelude.{All, Contains}
use Rattle.std.proofs.lemmas.Bool.{cases_lt, cases_eq}
use Rattle.std.proofs.lemmas.List.{get_or_default, get_or-take, length-set, get_or-set_same, get_or-set_other}
use Rattle.tv_structure_form.specs.StructureForm.{StructureForm}
use Rattle.tv_embed.specs.Maps.{image_of}
use Rattle.tv_embed.specs.Fits.{IsCandidate}
use Rattle.tv_embed.specs.Search.{HasNoneWith, AreCandidates, AreBounds, LeavesOne}
use Rattle.tv_embed.proofs.MapLaws.{FitsSoFar-embedding, IsOnto-embedding}

-- ---- where one is out of reach, no embedding begins so

pub out_of_reach : (small large : StructureForm) (bounds images : List ℕ) → AreBounds small large small.size bounds
    → LeavesOne bounds images → HasNoneWith small large images
out_of_reach small large bounds images are (w, lt, out) other embeds begins = from (IsOnto-embedding small large other embeds w inside)
  where
    inside : w < large.size
    inside = omega (arith, lt, are.count)

    from : Contains other w → ⊥
    from (k, within, at) = side (cases_lt k (length images))
      where
        side : (k < length images) ⊎ (length images ≤ k) → ⊥
        side (inl front) =
            let read : get_or images k w ≡ w
            = ap (λ xs. get_or xs k w) (sym begins) ∙ get_or-take (length images) other k w front ∙ at
            in out.missing (k, front, read)
        side (inr back) =
            let image : image_of other k ≡ w = get_or_default other k 0 w within ∙ at
            in let one : IsCandidate small large k (image_of other k)
            = (FitsSoFar-embedding small large other embeds).candidates k within
            in let few : k < small.size = omega (arith, within, embeds.0)
            in let bound : k < get_or bounds w 0
            = are.each k w few inside (subst (IsCandidate small large k) image one)
            in omega (arith, bound, out.bound, back)

-- ---- bounds, one individual after the other

pub bounds_none : (small large : StructureForm) (bounds : List ℕ) → length bounds ≡ large.size → AreBounds small large 0 bounds
bounds_none small large bounds count = record { count = count; each = λ u w lt. absurd (omega arith) }

pub bounds_more : (small large : StructureForm) (n : ℕ) (list old new : List ℕ) → AreCandidates small large n large.size list
    → length new ≡ length old → All (λ w. get_or new w 0 ≡ n + 1) list
    → ((w : ℕ) → (get_or new w 0 ≡ n + 1) ⊎ (get_or new w 0 ≡ get_or old w 0))
    → AreBounds small large n old → AreBounds small large (n + 1) new
bounds_more small large n list old new are count put kept before = record {
  count = count ∙ before.count;
  each = λ u w lt inside one. each u w inside one (cases_lt u n) lt;
}
  where
    each : (u w : ℕ) → w < large.size → IsCandidate small large u w → (u < n) ⊎ (n ≤ u) → u < n + 1 → u < get_or new w 0
    each u w inside one (inl below) lt = side (kept w)
      where
        side : (get_or new w 0 ≡ n + 1) ⊎ (get_or new w 0 ≡ get_or old w 0) → u < get_or new w 0
        side (inl raised) = omega (arith, raised, below)
        side (inr same) = let bound : u < get_or old w 0 = before.each u w below inside one in omega (arith, same, bound)
    each u w inside one (inr from) lt = at (are.each w inside (subst (λ x. IsCandidate small large x w) same one))
      where
        same : u ≡ n
        same = omega (arith, from, lt)

        at : Contains list w → u < get_or new w 0
        at (k, within, is) =
            let raised : get_or new w 0 ≡ n + 1 = subst (λ x. get_or new x 0 ≡ n + 1) is (put k w within)
            in omega (arith, raised, same)

-- ---- one bound after the other

pub record IsRaised (places : List ℕ) (bound n : ℕ) (old new : List ℕ) : Type 0 where
  pub long : length new ≡ length old
  pub put : (k : ℕ) → k < n → k < length places → get_or new (get_or places k 0) 0 ≡ bound
  pub kept : (w : ℕ) → (get_or new w 0 ≡ bound) ⊎ (get_or new w 0 ≡ get_or old w 0)

pub raised_none : (places : List ℕ) (bound : ℕ) (old : List ℕ) → IsRaised places bound 0 old old
raised_none places bound old = record { long = refl; put = λ k lt. absurd (omega arith); kept = λ w. inr refl }

pub raised_more : (places : List ℕ) (bound n w : ℕ) (old new next : List ℕ) → w ≡ get_or places n 0 → w < length new
    → next ≡ set new w bound → IsRaised places bound n old new → IsRaised places bound (n + 1) old next
raised_more places bound n w old new next is within put before = record {
  long = ap length put ∙ length-set new w bound ∙ before.long;
  put = λ k lt there. at k lt there (cases_lt k n);
  kept = λ x. kept x (cases_eq x w);
}
  where
    here : get_or next w 0 ≡ bound
    here = ap (λ xs. get_or xs w 0) put ∙ get_or-set_same new w bound 0 within

    other : (x : ℕ) → (x ≡ w → ⊥) → get_or next x 0 ≡ get_or new x 0
    other x ne = ap (λ xs. get_or xs x 0) put ∙ get_or-set_other new w x bound 0 ne

    kept : (x : ℕ) → (x ≡ w) ⊎ (x ≡ w → ⊥) → (get_or next x 0 ≡ bound) ⊎ (get_or next x 0 ≡ get_or old x 0)
    kept x (inl e) = inl (ap (λ y. get_or next y 0) e ∙ here)
    kept x (inr ne) = side (before.kept x)
      where
        side : (get_or new x 0 ≡ bound) ⊎ (get_or new x 0 ≡ get_or old x 0)
            → (get_or next x 0 ≡ bound) ⊎ (get_or next x 0 ≡ get_or old x 0)
        side (inl e) = inl (other x ne ∙ e)
        side (inr e) = inr (other x ne ∙ e)

    at : (k : ℕ) → k < n + 1 → k < length places → (k < n) ⊎ (n ≤ k) → get_or next (get_or places k 0) 0 ≡ bound
    at k lt there (inl below) = side (cases_eq (get_or places k 0) w)
      where
        side : (get_or places k 0 ≡ w) ⊎ (get_or places k 0 ≡ w → ⊥) → get_or next (get_or places k 0) 0 ≡ bound
        side (inl e) = ap (λ y. get_or next y 0) e ∙ here
        side (inr ne) = other (get_or places k 0) ne ∙ before.put k below there
    at k lt there (inr from) =
        let last : k ≡ n = omega (arith, from, lt)
        in ap (λ y. get_or next (get_or places y 0) 0) last ∙ ap (λ y. get_or next y 0) (sym is) ∙ here

pub raised_all : (places : List ℕ) (bound n : ℕ) (old new : List ℕ) → length places ≤ n → IsRaised places bound n old new
    → All (λ w. get_or new w 0 ≡ bound) places
raised_all places bound n old new all raised k d lt =
    ap (λ y. get_or new y 0) (get_or_default places k d 0 lt) ∙ raised.put k (omega (arith, lt, all)) lt
