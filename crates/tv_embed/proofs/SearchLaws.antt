-- Searching among embeddings that begin in one way.
use Rattle.std.proofs.Common.{ℕ, ◌≡◌, ◌≢◌, ◌⊎◌, ◌<◌, ◌≤◌, ◌+◌, ◌-◌, zero, suc, inl, inr, Bool, true, false}
use Rattle.std.proofs.Common.{List, [], ◌∷◌, ◌++◌, get_or, length, map, take, drop, Less, Equal, refl, sym}
use Rattle.std.proofs.Common.{ap, subst, ◌∙◌, arith, ◌==◌, eq-eqb, ne_eqb, lt-ltb, if◌then◌else◌}
use Rattle.std.specs.Prelude.{All, Contains, IsTrue, ◌||◌}
use Rattle.std.specs.List.{list_any, range_with_len}
use Rattle.std.specs.Ordering.{nat_cmp, is_le}
use Rattle.std.specs.Cmp.{nat_cmp_total}
use Rattle.std.specs.Cmp.Lexicographic.{slice_cmp}
use Rattle.std.proofs.lemmas.Bool.{cases_lt, cases_order}
use Rattle.std.proofs.lemmas.Cmp.{tied_itself}
use Rattle.std.proofs.lemmas.List.{take_more, take-take, take_at, take_all, length_push, get_or-take}
use Rattle.std.proofs.lemmas.List.{get_or_push, get_or_default, get_or-drop, length-drop}
use Rattle.std.proofs.lemmas.List.Elements.{All-head, All-tail}
use Rattle.std.proofs.lemmas.List.FromFn.{length-map-range_with_len, get_or-map-range_with_len}
use Rattle.std.proofs.lemmas.List.Folds.{list_any_at}
use Rattle.tv_lemmas.proofs.Orderings.{le_same}
use Rattle.tv_kleene.specs.Kleene.{LiesUnder}
use Rattle.tv_embedding_laws.specs.Embedding.{Embeds, IsEmbedded}
use Rattle.tv_structure_form.specs.StructureForm.{StructureForm, IsStructure, structure_of, arities_of}
use Rattle.tv_structure_form.specs.StructureForm.{value_at}
use Rattle.tv_structure_form.specs.StructureForm.{summary_at}
use Rattle.tv_structure_form.proofs.Library.{below-range}
use Rattle.tv_embed.specs.Maps.{image_of, IsEmbedding}
use Rattle.tv_embed.specs.Fits.{TupleFits, IsCandidate, JoinsUp, FitsSoFar, IsOnto}
use Rattle.tv_embed.specs.Search.{BeginsWith, IsLeastWith, HasNoneWith, IsSearched, AreCandidates}
use Rattle.tv_embed.specs.Search.{AreAllCandidates, missing_below}
use Rattle.tv_embed.proofs.FitLaws.{FitsSoFar-take, FitsSoFar-joins}
use Rattle.tv_embed.proofs.MapLaws.{Embeds-fits, FitsSoFar-embedding, IsOnto-embedding}

-- ---- beginnings

begins-front : (images other : List ℕ) (w : ℕ) → BeginsWith (images ++ w ∷ []) other → BeginsWith images other
begins-front images other w e =
    let count : length (images ++ w ∷ []) ≡ length images + 1 = length_push images w
    in sym (take-take (length images) (length (images ++ w ∷ [])) other (omega arith))
    ∙ ap (take (length images)) e ∙ take_at images (w ∷ []) (length images) refl

begins-push : (images other : List ℕ) (w : ℕ) → BeginsWith images other → length images < length other
    → get_or other (length images) 0 ≡ w → BeginsWith (images ++ w ∷ []) other
begins-push images other w e lt at =
    rw (length_push images w)
    (take_more other (length images) 0 lt ∙ (λ i. e i ++ at i ∷ []))

begins-at : (images other : List ℕ) (w : ℕ) → BeginsWith (images ++ w ∷ []) other → get_or other (length images) 0 ≡ w
begins-at images other w e =
    let count : length (images ++ w ∷ []) ≡ length images + 1 = length_push images w
    in sym (get_or-take (length (images ++ w ∷ [])) other (length images) 0 (omega arith))
    ∙ ap (λ xs. get_or xs (length images) 0) e ∙ get_or_push images w 0 (length images) refl

-- ---- lexicographic order

lex-less : (n : ℕ) (xs ys : List ℕ) → take n xs ≡ take n ys → n < length xs → n < length ys → get_or xs n 0 < get_or ys n 0
    → slice_cmp nat_cmp xs ys ≡ Less
lex-less n [] ys e x_lt y_lt less = absurd (omega arith)
lex-less n (x ∷ xs) [] e x_lt y_lt less = absurd (omega arith)
lex-less zero (x ∷ xs) (y ∷ ys) e x_lt y_lt less = rw (lt-ltb x y less) refl
lex-less (suc n) (x ∷ xs) (y ∷ ys) e x_lt y_lt less =
    let head : x ≡ y = cc
    in let tail : take n xs ≡ take n ys = cc
    in let same : nat_cmp x y ≡ Equal = rw head (tied_itself nat_cmp_total y)
    in let rest : slice_cmp nat_cmp xs ys ≡ Less = lex-less n xs ys tail (omega arith) (omega arith) less
    in rw same rest

le-Less : (xs ys : List ℕ) → slice_cmp nat_cmp xs ys ≡ Less → IsTrue (is_le (slice_cmp nat_cmp xs ys))
le-Less xs ys e = rw e refl

-- ---- one individual

-- the image of the next individual is a candidate
next-candidate : (small large : StructureForm) (images list other : List ℕ) → AreCandidates small large (length images) large.size list
    → length images < small.size → IsEmbedding small large other → Contains list (image_of other (length images))
next-candidate small large images list other are lt embeds =
    let fits : FitsSoFar small large other = FitsSoFar-embedding small large other embeds
    in let within : length images < length other = omega (arith, embeds.0)
    in are.each (image_of other (length images)) (fits.within (length images) within) (fits.candidates (length images) within)

-- where the next image doesn't join up, no embedding begins so
pub none_joins : (small large : StructureForm) (images : List ℕ) (w : ℕ) → length images < small.size
    → (JoinsUp small large images w → ⊥) → HasNoneWith small large (images ++ w ∷ [])
none_joins small large images w lt never other embeds begins =
    let fits : FitsSoFar small large other = FitsSoFar-embedding small large other embeds
    in let count : length (images ++ w ∷ []) ≡ length images + 1 = length_push images w
    in let front : FitsSoFar small large (take (length (images ++ w ∷ [])) other)
    = FitsSoFar-take small large other (length (images ++ w ∷ [])) (omega (arith, embeds.0)) fits
    in let P : List ℕ → Type 0 = λ xs. FitsSoFar small large xs
    in never (FitsSoFar-joins small large images w (subst P begins front))

-- no embedding that begins so has one of the first n candidates next
pub record AreTried (small large : StructureForm) (images list : List ℕ) (n : ℕ) : Type 0 where
  pub none : (other : List ℕ) → IsEmbedding small large other → BeginsWith images other
      → (i : ℕ) → i < n → i < length list → get_or list i 0 ≢ image_of other (length images)

pub tried_none : (small large : StructureForm) (images list : List ℕ) → AreTried small large images list 0
tried_none small large images list = record { none = λ other embeds begins i lt within same. omega arith }

pub tried_more : (small large : StructureForm) (images list : List ℕ) (n w : ℕ) → length images < small.size
    → AreTried small large images list n → n < length list → w ≡ get_or list n 0 → HasNoneWith small large (images ++ w ∷ [])
    → AreTried small large images list (n + 1)
tried_more small large images list n w few tried lt is none = record {
  none = λ other embeds begins i below within same. at other embeds begins i below within same (cases_lt i n);
}
  where
    at : (other : List ℕ) → IsEmbedding small large other → BeginsWith images other → (i : ℕ) → i < n + 1 → i < length list
        → get_or list i 0 ≡ image_of other (length images) → (i < n) ⊎ (n ≤ i) → ⊥
    at other embeds begins i below within same (inl before) = tried.none other embeds begins i before within same
    at other embeds begins i below within same (inr after) =
        let last : n ≡ i = omega arith
        in none other embeds
        (begins-push images other w begins (omega (arith, embeds.0)) (sym same ∙ ap (λ k. get_or list k 0) (sym last) ∙ sym is))

pub tried_all : (small large : StructureForm) (images list : List ℕ) (n : ℕ) → length images < small.size
    → AreCandidates small large (length images) large.size list → AreTried small large images list n → length list ≤ n
    → HasNoneWith small large images
tried_all small large images list n few are tried all other embeds begins =
    from (next-candidate small large images list other are few embeds)
  where
    from : Contains list (image_of other (length images)) → ⊥
    from (i, lt, at) =
        tried.none other embeds begins i (omega arith) lt (get_or_default list i 0 (image_of other (length images)) lt ∙ at)

pub tried_found : (small large : StructureForm) (images list new : List ℕ) (n w : ℕ) → length images < small.size
    → AreCandidates small large (length images) large.size list → AreTried small large images list n → n < length list
    → w ≡ get_or list n 0 → IsLeastWith small large (images ++ w ∷ []) new → IsLeastWith small large images new
tried_found small large images list new n w few are tried lt is found = record {
  embeds = found.embeds;
  begins = begins-front images new w found.begins;
  least = λ other embeds begins. least other embeds begins (next-candidate small large images list other are few embeds);
}
  where
    least : (other : List ℕ) → IsEmbedding small large other → BeginsWith images other
        → Contains list (image_of other (length images)) → IsTrue (is_le (slice_cmp nat_cmp new other))
    least other embeds begins (i, within, at) = side (cases_order i n)
      where
        read : get_or list i 0 ≡ image_of other (length images)
        read = get_or_default list i 0 (image_of other (length images)) within ∙ at

        side : (i ≡ n) ⊎ ((i < n) ⊎ (n < i)) → IsTrue (is_le (slice_cmp nat_cmp new other))
        side (inl same) =
            found.least other embeds
            (begins-push images other w begins (omega (arith, embeds.0)) (sym read ∙ ap (λ k. get_or list k 0) same ∙ sym is))
        side (inr (inl before)) = absurd (tried.none other embeds begins i before within read)
        side (inr (inr after)) =
            let rises : get_or list n 0 < get_or list i 0 = are.ascending n i 0 after within
            in let own : get_or new (length images) 0 ≡ w = begins-at images new w found.begins
            in let front : take (length images) new ≡ take (length images) other
            = begins-front images new w found.begins ∙ sym begins
            in le-Less new other
            (lex-less (length images) new other front (omega (arith, found.embeds.0)) (omega (arith, embeds.0))
            (omega (arith, own, is, read, rises)))

-- ---- the last individual

whole-same : (small large : StructureForm) (images other : List ℕ) → length images ≡ small.size → IsEmbedding small large other
    → BeginsWith images other → images ≡ other
whole-same small large images other whole embeds begins =
    sym begins ∙ take_all (length images) other (omega (arith, embeds.0))

pub whole_searched : (small large : StructureForm) (images : List ℕ) (onto : Bool) → IsStructure small
    → arities_of small ≡ arities_of large → length images ≡ small.size → FitsSoFar small large images
    → (IsTrue onto → IsOnto large images) → (IsOnto large images → IsTrue onto)
    → IsSearched small large images images onto images
whole_searched small large images true is same whole fits to from = record {
  embeds = Embeds-fits small large images is same whole fits (to refl);
  begins = take_all (length images) images (omega arith);
  least = λ other embeds begins. le_same images other (whole-same small large images other whole embeds begins);
}
whole_searched small large images false is same whole fits to from = (
  λ other embeds begins.
      let P : List ℕ → Type 0 = λ xs. IsOnto large xs
      in let onto : IsTrue false
      = from (subst P (sym (whole-same small large images other whole embeds begins)) (IsOnto-embedding small large other embeds))
      in absurd (cc),
  refl,
)

-- ---- enough individuals must be left

-- how many of the first n numbers fail the test
count-failing : (test : ℕ → Bool) → ℕ → ℕ
count-failing test zero = 0
count-failing test (suc n) = count-failing test n + (if test n then 0 else 1)

missing-count : (images : List ℕ) (n : ℕ) → missing_below images n ≡ count-failing (λ w. list_any (λ y. y == w) images) n
unfolding count-failing
missing-count images zero = refl
missing-count images (suc n) = ap (λ k. k + (if list_any (λ y. y == n) images then 0 else 1)) (missing-count images n)

none-failing : (test : ℕ → Bool) (n : ℕ) → ((w : ℕ) → w < n → test w ≡ false → ⊥) → count-failing test n ≡ 0
unfolding count-failing
none-failing test zero never = refl
none-failing test (suc n) never =
    at (test n) refl (none-failing test n (λ w lt. never w (omega arith)))
  where
    at : (b : Bool) → test n ≡ b → count-failing test n ≡ 0 → count-failing test n + (if b then 0 else 1) ≡ 0
    at true is before = omega arith
    at false is before = absurd (never n (omega arith) is)

pub missing-le : (images : List ℕ) (n : ℕ) → missing_below images n ≤ n
missing-le images zero = omega arith
missing-le images (suc n) = at (list_any (λ y. y == n) images) (missing-le images n)
  where
    at : (b : Bool) → missing_below images n ≤ n → missing_below images n + (if b then 0 else 1) ≤ suc n
    at true before = omega arith
    at false before = omega arith

-- one number more passes, so at most one fewer fails
passing-before : (test : ℕ → Bool) (y n : ℕ) → n ≤ y → count-failing test n ≡ count-failing (λ w. test w || (w == y)) n
unfolding count-failing
passing-before test y zero le = refl
passing-before test y (suc n) le =
    let before : count-failing test n ≡ count-failing (λ w. test w || (w == y)) n = passing-before test y n (omega arith)
    in rw (ne_eqb n y (λ e. omega arith)) (at (test n) before)
  where
    at : (b : Bool) → count-failing test n ≡ count-failing (λ w. test w || (w == y)) n
        → count-failing test n + (if b then 0 else 1)
        ≡ count-failing (λ w. test w || (w == y)) n + (if (b || false) then 0 else 1)
    at true before = omega arith
    at false before = omega arith

passing-one : (test : ℕ → Bool) (y n : ℕ) → count-failing test n ≤ count-failing (λ w. test w || (w == y)) n + 1
unfolding count-failing
passing-one test y zero = omega arith
passing-one test y (suc n) = at (cases_order n y) (passing-one test y n)
  where
    bits : (b c : Bool) → (if b then 0 else 1) ≤ (if (b || c) then 0 else 1) + 1
    bits true c = omega arith
    bits false true = omega arith
    bits false false = omega arith

    later : (b : Bool) → ◌≡◌ {A = ℕ} (if (b || false) then 0 else 1) (if b then 0 else 1)
    later true = refl
    later false = refl

    at : (n ≡ y) ⊎ ((n < y) ⊎ (y < n)) → count-failing test n ≤ count-failing (λ w. test w || (w == y)) n + 1
        → count-failing test n + (if test n then 0 else 1)
        ≤ count-failing (λ w. test w || (w == y)) n + (if (test n || (n == y)) then 0 else 1) + 1
    at (inl same) before =
        let equal : count-failing test n ≡ count-failing (λ w. test w || (w == y)) n = passing-before test y n (omega arith)
        in omega (arith, equal, bits (test n) (n == y))
    at (inr (inl less)) before =
        let equal : count-failing test n ≡ count-failing (λ w. test w || (w == y)) n = passing-before test y n (omega arith)
        in omega (arith, equal, bits (test n) (n == y))
    at (inr (inr more)) before = rw (ne_eqb n y (λ e. omega arith), later (test n)) (omega arith)

-- where each number that fails is in the list, no more fail than the list has elements
failing-few : (ys : List ℕ) (test : ℕ → Bool) (n : ℕ) → ((w : ℕ) → w < n → test w ≡ false → Contains ys w)
    → count-failing test n ≤ length ys
failing-few [] test n inside =
    let none : count-failing test n ≡ 0
    = none-failing test n (λ w lt is. let at : Contains [] w = inside w lt is in let below : at.0 < 0 = at.1 in omega arith)
    in omega arith
failing-few (y ∷ ys) test n inside =
    let rest : count-failing (λ w. test w || (w == y)) n ≤ length ys
    = failing-few ys (λ w. test w || (w == y)) n (λ w lt is. later w (apart w is) (inside w lt (old w is)))
    in omega (arith, rest, passing-one test y n)
  where
    old_by : (a b : Bool) → (a || b) ≡ false → a ≡ false
    old_by true b e = e
    old_by false b e = refl

    new_by : (a b : Bool) → (a || b) ≡ false → b ≡ false
    new_by true b e = absurd (cc)
    new_by false b e = e

    old : (w : ℕ) → (test w || (w == y)) ≡ false → test w ≡ false
    old w e = old_by (test w) (w == y) e

    apart : (w : ℕ) → (test w || (w == y)) ≡ false → w ≢ y
    apart w e same = absurd (let f : false ≡ true = sym (new_by (test w) (w == y) e) ∙ eq-eqb w y same in cc)

    later : (w : ℕ) → w ≢ y → Contains (y ∷ ys) w → Contains ys w
    later w differ (zero, lt, at) = absurd (differ (sym at))
    later w differ (suc k, lt, at) = (k, omega arith, at)

pub few_left : (small large : StructureForm) (images : List ℕ) → length images ≤ small.size
    → small.size - length images < missing_below images large.size → HasNoneWith small large images
few_left small large images le more other embeds begins =
    let onto : IsOnto large other = IsOnto-embedding small large other embeds
    in let few : count-failing (λ w. list_any (λ y. y == w) images) large.size ≤ length (drop (length images) other)
    = failing-few (drop (length images) other) (λ w. list_any (λ y. y == w) images) large.size (λ w lt is. behind w is (onto w lt))
    in omega (arith, missing-count images large.size, few, length-drop (length images) other, embeds.0)
  where
    behind : (w : ℕ) → list_any (λ y. y == w) images ≡ false → Contains other w → Contains (drop (length images) other) w
    behind w is (i, lt, at) = side (cases_lt i (length images))
      where
        side : (i < length images) ⊎ (length images ≤ i) → Contains (drop (length images) other) w
        side (inl before) =
            let read : get_or images i w ≡ w
            = ap (λ xs. get_or xs i w) (sym begins) ∙ get_or-take (length images) other i w before ∙ at
            in absurd (let f : false ≡ true = sym is ∙ list_any_at (λ y. y == w) images i w before (eq-eqb _ _ read) in cc)
        side (inr after) =
            let place : length images + (i - length images) ≡ i = omega arith
            in (
              i - length images,
              rw (length-drop (length images) other) (omega arith),
              get_or-drop (length images) other (i - length images) w ∙ ap (λ k. get_or other k w) place ∙ at,
            )

-- ---- embeddings as lists

maps-agree : (n : ℕ) (f g : ℕ → ℕ) → ((u : ℕ) → Contains (range_with_len 0 n) u → f u ≡ g u) → (tuple : List ℕ)
    → All (Contains (range_with_len 0 n)) tuple → map f tuple ≡ map g tuple
maps-agree n f g same [] all = refl
maps-agree n f g same (u ∷ us) all =
    let head : f u ≡ g u = same u (All-head (Contains (range_with_len 0 n)) u us all)
    in let tail : map f us ≡ map g us = maps-agree n f g same us (All-tail (Contains (range_with_len 0 n)) u us all)
    in λ i. head i ∷ tail i

-- each embedding is one as a list
pub embedding-list : (small large : StructureForm) (f : ℕ → ℕ) → Embeds f (structure_of small) (structure_of large)
    → IsEmbedding small large (map f (range_with_len 0 small.size))
embedding-list small large f e = (
  length-map-range_with_len f 0 small.size,
  record {
    into = λ u at. let P : ℕ → Type 0 = λ x. Contains (range_with_len 0 large.size) x in subst P (same u at) (e.into u at);
    onto = λ w at. onto w (e.onto w at);
    values = λ pred p tuple all.
        let P : List ℕ → Type 0 = λ image. LiesUnder (value_at small pred tuple) (value_at large pred image)
        in subst P (maps-agree small.size f (image_of (map f (range_with_len 0 small.size))) same tuple all)
        (e.values pred p tuple all);
    summaries = λ u at summary.
        let P : ℕ → Type 0 = λ x. IsTrue (summary_at large x) in subst P (same u at) (e.summaries u at summary);
    several = λ u w at other differ one.
        let P : ℕ → Type 0 = λ x. IsTrue (summary_at large x)
        in subst P (same u at) (e.several u w at other differ (same u at ∙ one ∙ sym (same w other)));
  },
)
  where
    same : (u : ℕ) → Contains (range_with_len 0 small.size) u → f u ≡ image_of (map f (range_with_len 0 small.size)) u
    same u at = sym (get_or-map-range_with_len f 0 small.size u u 0 (below-range small.size u at) (omega arith))

    onto : (w : ℕ) → (u : ℕ) × Contains (range_with_len 0 small.size) u × (f u ≡ w)
        → (u : ℕ) × Contains (range_with_len 0 small.size) u × (image_of (map f (range_with_len 0 small.size)) u ≡ w)
    onto w (u, at, is) = (u, at, sym (same u at) ∙ is)

pub none_embedded : (small large : StructureForm) → HasNoneWith small large []
    → IsEmbedded (structure_of small) (structure_of large) → ⊥
none_embedded small large none (f, e) = none (map f (range_with_len 0 small.size)) (embedding-list small large f e) refl

pub none_nullary : (small large : StructureForm) → (TupleFits small large [] [] → ⊥) → HasNoneWith small large []
none_nullary small large never other embeds begins = never (FitsSoFar-embedding small large other embeds).nullary

-- ---- the loop over candidates

-- what the loop keeps: the images stand as they were, and those that were tried begin no embedding
pub record IsTrying (small large : StructureForm) (old images list : List ℕ) (n : ℕ) : Type 0 where
  pub same : images ≡ old
  pub few : length old < small.size
  pub are : AreCandidates small large (length old) large.size list
  pub tried : AreTried small large old list n

pub trying_none : (small large : StructureForm) (images list : List ℕ) (lists : List (List ℕ))
    → AreAllCandidates small large small.size lists → length images < small.size → list ≡ get_or lists (length images) []
    → IsTrying small large images images list 0
trying_none small large images list lists all few is = record {
  same = refl;
  few = few;
  are = let P : List ℕ → Type 0 = λ xs. AreCandidates small large (length images) large.size xs
      in subst P (sym is) (all.each (length images) few);
  tried = tried_none small large images list;
}

pub trying_more : (small large : StructureForm) (old images list new : List ℕ) (n : ℕ) → IsTrying small large old images list n
    → n < length list → HasNoneWith small large (images ++ get_or list n 0 ∷ []) × (new ≡ images)
    → IsTrying small large old new list (n + 1)
trying_more small large old images list new n trying lt (none, back) = record {
  same = back ∙ trying.same;
  few = trying.few;
  are = trying.are;
  tried = tried_more small large old list n (get_or list n 0) trying.few trying.tried lt refl
      (let P : List ℕ → Type 0 = λ xs. HasNoneWith small large (xs ++ get_or list n 0 ∷ []) in subst P trying.same none);
}

pub trying_found : (small large : StructureForm) (old images list new : List ℕ) (n : ℕ) → IsTrying small large old images list n
    → n < length list → IsLeastWith small large (images ++ get_or list n 0 ∷ []) new → IsLeastWith small large old new
trying_found small large old images list new n trying lt found =
    let P : List ℕ → Type 0 = λ xs. IsLeastWith small large (xs ++ get_or list n 0 ∷ []) new
    in tried_found small large old list new n (get_or list n 0) trying.few trying.are trying.tried lt refl (subst P trying.same found)

pub trying_all : (small large : StructureForm) (old images list : List ℕ) (n : ℕ) → IsTrying small large old images list n
    → length list ≤ n → HasNoneWith small large old × (images ≡ old)
trying_all small large old images list n trying all =
    (tried_all small large old list n trying.few trying.are trying.tried all, trying.same)

pub trying_fits : (small large : StructureForm) (old images list : List ℕ) (n : ℕ) → IsTrying small large old images list n
    → n < length list → FitsSoFar small large old
    → (length images < small.size) × FitsSoFar small large images × (get_or list n 0 < large.size)
    × IsCandidate small large (length images) (get_or list n 0)
trying_fits small large old images list n trying lt fits =
    let Few : List ℕ → Type 0 = λ xs. length xs < small.size
    in let Fits : List ℕ → Type 0 = λ xs. FitsSoFar small large xs
    in let Candidate : List ℕ → Type 0 = λ xs. IsCandidate small large (length xs) (get_or list n 0)
    in (
      subst Few (sym trying.same) trying.few,
      subst Fits (sym trying.same) fits,
      trying.are.within n 0 lt,
      subst Candidate (sym trying.same) (trying.are.only n 0 lt),
    )

pub searched_case : (small large : StructureForm) (front old : List ℕ) (found : Bool) (new : List ℕ)
    → IsSearched small large front old found new → found ≡ true → IsLeastWith small large front new
searched_case small large front old true new s e = s
searched_case small large front old false new s e = absurd (cc)

pub searched_none : (small large : StructureForm) (front old : List ℕ) (found : Bool) (new : List ℕ)
    → IsSearched small large front old found new → found ≡ false → HasNoneWith small large front × (new ≡ old)
searched_none small large front old true new s e = absurd (cc)
searched_none small large front old false new s e = s
