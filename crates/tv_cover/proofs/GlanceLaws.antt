-- What a structure above another says at a glance.
use Rattle.std.proofs.Common.{ℕ, ◌≡◌, ◌≢◌, ◌<◌, ◌≤◌, ◌+◌, ◌*◌, ◌%◌, ◌⊎◌, suc, zero, inl, inr, Bool, true}
use Rattle.std.proofs.Common.{false}
use Rattle.std.proofs.Common.{List, [], ◌∷◌, ◌++◌, length, get_or, take, map, set, max, refl, sym, ap, subst}
use Rattle.std.proofs.Common.{◌∙◌}
use Rattle.std.proofs.Common.{arith, add-one, eq-eqb, ◌==◌, ◌&&◌}
use Rattle.std.specs.Prelude.{All, Any, Contains, IsTrue, fold, replicate, slice_index}
use Rattle.std.specs.List.{range_with_len}
use Rattle.std.proofs.lemmas.Bool.{cases_lt, cases_eq, cases_order}
use Rattle.std.proofs.lemmas.List.{get_or_past, get_or_default, ext_get_or, length-set, length-replicate}
use Rattle.std.proofs.lemmas.List.{get_or-set_other, get_or-set_same, get_or_append_left}
use Rattle.std.proofs.lemmas.List.{get_or-map, get_or-replicate, length-map}
use Rattle.std.proofs.lemmas.List.{get_or_push, length_push, take_all}
use Rattle.std.proofs.lemmas.List.Sums.{fold_more}
use Rattle.std.proofs.lemmas.List.Elements.{All-nil, All-cons}
use Rattle.std.proofs.lemmas.List.FromFn.{length-map-range_with_len, get_or-map-range_with_len}
use Rattle.std.proofs.lemmas.List.FromFn.{map-range_with_len_more}
use Rattle.tv_kleene.specs.declared.K3.{K3}
use Rattle.tv_kleene.specs.declared.K3.TheVariants.{No, Half, Yes}
use Rattle.tv_kleene.specs.Kleene.{LiesUnder, smaller_of, larger_of, negation_of, join_of}
use Rattle.tv_kleene.proofs.Lattice.{join-same, larger-yes, smaller-no, smaller-yes, value-decided}
use Rattle.tv_row.specs.Bits.{paired, padded, number_of, is_possible, is_certain}
use Rattle.tv_row.proofs.RowOps.{no_word, no_place}
use Rattle.tv_row.proofs.WordOps.{length-paired, get_or-paired}
use Rattle.tv_row.specs.Mixed.{mixed, row_mixed}
use Rattle.tv_structure_form.proofs.StructureLaws.{no-replicate}
use Rattle.tv_embed.specs.Maps.{image_of, IsEmbedding}
use Rattle.tv_embedding_laws.specs.Embedding.{Embeds, IsEmbedded}
use Rattle.tv_structure_form.specs.StructureForm.{StructureForm, arities_of, structure_of, value_at}
use Rattle.tv_structure_form.specs.StructureForm.{summary_at}
use Rattle.tv_struct.specs.StructureRows.{flag_value}
use Rattle.tv_structure_form.proofs.Library.{Contains-range, below-range, value_at-past}
use Rattle.tv_cover.specs.Glance.{profile_of, nullary_value, value_near, profile_near, GlanceForm, glance_of}
use Rattle.tv_cover.specs.Glance.{LieUnder}
use Rattle.tv_cover.specs.Glance.{MayEmbed, AreOnlyImages, IsOnlyMap, IsDefinite, AreKnown, AreWithinMarks}
use Rattle.tv_cover.specs.Glance.{profile_number}
use Rattle.tv_cover.specs.Glance.{slots_of, greatest_of, glance_number}
use Rattle.tv_cover.specs.Glance.{slot_of, AreSummariesTo, AreSummaries, AreWithin}

-- ---- the values of predicates that are known

one-known : (x y m : K3) → LiesUnder x y → (m ≢ No → y ≢ Half) → smaller_of x m ≡ smaller_of y m
one-known x y No under known = smaller-no x ∙ sym (smaller-no y)
one-known x y Half (inl e) known = ap (λ k. smaller_of k Half) e
one-known x y Half (inr half) known = absurd (known (λ e. cc) half)
one-known x y Yes (inl e) known = ap (λ k. smaller_of k Yes) e
one-known x y Yes (inr half) known = absurd (known (λ e. cc) half)

known-same : (below above known : List K3) → length below ≡ length above
    → ((i : ℕ) → i < length below → LiesUnder (get_or below i No) (get_or above i No)) → IsDefinite known above
    → paired smaller_of below known ≡ paired smaller_of above known
known-same [] [] known count under definite = refl
known-same [] (y ∷ above) known count under definite = absurd (omega arith)
known-same (x ∷ below) [] known count under definite = absurd (omega arith)
known-same (x ∷ below) (y ∷ above) [] count under definite = refl
known-same (x ∷ below) (y ∷ above) (m ∷ known) count under definite =
    let first : smaller_of x m ≡ smaller_of y m = one-known x y m (under 0 (omega arith)) (definite 0)
    in let rest : paired smaller_of below known ≡ paired smaller_of above known
    = known-same below above known (omega arith) (λ i lt. under (suc i) (omega arith)) (λ i. definite (suc i))
    in λ i. first i ∷ rest i

-- ---- numbers of sets of rows

slots-length : (number : List K3 → ℕ) (rows : List (List K3)) (slots : List K3)
    → length (fold (λ slots row. set slots (number row % 251) Yes) slots rows) ≡ length slots
slots-length number [] slots = refl
slots-length number (row ∷ rows) slots =
    slots-length number rows (set slots (number row % 251) Yes) ∙ length-set slots (number row % 251) Yes

-- Yes stays where it is
slots-kept : (number : List K3 → ℕ) (rows : List (List K3)) (slots : List K3) (i : ℕ) → i < length slots
    → get_or slots i No ≡ Yes → get_or (fold (λ slots row. set slots (number row % 251) Yes) slots rows) i No ≡ Yes
slots-kept number [] slots i lt is = is
slots-kept number (row ∷ rows) slots i lt is =
    slots-kept number rows (set slots (number row % 251) Yes) i (rw (length-set slots (number row % 251) Yes) lt)
    (at (cases_eq i (number row % 251)))
  where
    at : (i ≡ number row % 251) ⊎ (i ≢ number row % 251) → get_or (set slots (number row % 251) Yes) i No ≡ Yes
    at (inl e) =
        ap (λ k. get_or (set slots k Yes) i No) (sym e) ∙ get_or-set_same slots i Yes No lt
    at (inr ne) = get_or-set_other slots (number row % 251) i Yes No ne ∙ is

slots-put : (number : List K3 → ℕ) (rows : List (List K3)) (slots : List K3) (row : List K3) → length slots ≡ 256
    → Contains rows row → get_or (fold (λ slots row. set slots (number row % 251) Yes) slots rows) (number row % 251) No ≡ Yes
slots-put number [] slots row long (k, lt, at) = absurd (omega arith)
slots-put number (other ∷ rows) slots row long (zero, lt, at) =
    let within : number row % 251 < length slots = omega (arith, long)
    in slots-kept number rows (set slots (number other % 251) Yes) (number row % 251)
    (rw (length-set slots (number other % 251) Yes) within)
    (ap (λ r. get_or (set slots (number r % 251) Yes) (number row % 251) No) at
    ∙ get_or-set_same slots (number row % 251) Yes No within)
slots-put number (other ∷ rows) slots row long (suc k, lt, at) =
    slots-put number rows (set slots (number other % 251) Yes) row (length-set slots (number other % 251) Yes ∙ long)
    (k, omega arith, at)

slots-only : (number : List K3 → ℕ) (rows : List (List K3)) (slots : List K3) (i : ℕ)
    → (get_or (fold (λ slots row. set slots (number row % 251) Yes) slots rows) i No ≡ get_or slots i No)
    ⊎ ((row : List K3) × Contains rows row × (number row % 251 ≡ i))
slots-only number [] slots i = inl refl
slots-only number (other ∷ rows) slots i =
    at (slots-only number rows (set slots (number other % 251) Yes) i) (cases_eq i (number other % 251))
  where
    at : (get_or (fold (λ slots row. set slots (number row % 251) Yes) (set slots (number other % 251) Yes) rows) i No
        ≡ get_or (set slots (number other % 251) Yes) i No)
        ⊎ ((row : List K3) × Contains rows row × (number row % 251 ≡ i))
        → (i ≡ number other % 251) ⊎ (i ≢ number other % 251)
        → (get_or (fold (λ slots row. set slots (number row % 251) Yes) (set slots (number other % 251) Yes) rows) i No
        ≡ get_or slots i No)
        ⊎ ((row : List K3) × Contains (other ∷ rows) row × (number row % 251 ≡ i))
    at (inr (row, (k, lt, is), e)) which = inr (row, (suc k, omega arith, is), e)
    at (inl same) (inl e) = inr (other, (0, omega arith, refl), sym e)
    at (inl same) (inr ne) = inl (same ∙ get_or-set_other slots (number other % 251) i Yes No ne)

-- each row has one of the same number on the other side
pub Matches : (number : List K3 → ℕ) → (rows others : List (List K3)) → Type 0
Matches number rows others =
    (row : List K3) → Contains rows row → (other : List K3) × Contains others other × (number row ≡ number other)

slots-same : (number : List K3 → ℕ) (rows others : List (List K3)) → Matches number rows others
    → Matches number others rows → slots_of number rows ≡ slots_of number others
unfolding Matches
slots-same number rows others forth back =
    ext_get_or No (slots_of number rows) (slots_of number others)
    (slots-length number rows (replicate 256 No) ∙ sym (slots-length number others (replicate 256 No)))
    (λ i lt. at i (slots-only number rows (replicate 256 No) i) (slots-only number others (replicate 256 No) i))
  where
    long : length (replicate 256 No) ≡ 256
    long = length-replicate 256 No

    put : (rows : List (List K3)) (i : ℕ) (row : List K3) → Contains rows row → number row % 251 ≡ i
        → get_or (slots_of number rows) i No ≡ Yes
    put rows i row has e =
        subst (λ k. get_or (slots_of number rows) k No ≡ Yes) e (slots-put number rows (replicate 256 No) row long has)

    at : (i : ℕ)
        → (get_or (slots_of number rows) i No ≡ get_or (replicate 256 No) i No)
        ⊎ ((row : List K3) × Contains rows row × (number row % 251 ≡ i))
        → (get_or (slots_of number others) i No ≡ get_or (replicate 256 No) i No)
        ⊎ ((row : List K3) × Contains others row × (number row % 251 ≡ i))
        → get_or (slots_of number rows) i No ≡ get_or (slots_of number others) i No
    at i (inl none) (inl empty) = none ∙ sym empty
    at i (inr (row, has, e)) which =
        let other = forth row has
        in put rows i row has e ∙ sym (put others i other.0 other.1 (ap (λ n. n % 251) (sym other.2) ∙ e))
    at i (inl none) (inr (row, has, e)) =
        let other = back row has
        in put rows i other.0 other.1 (ap (λ n. n % 251) (sym other.2) ∙ e) ∙ sym (put others i row has e)

greatest-start : (number : List K3 → ℕ) (rows : List (List K3)) (a : ℕ)
    → a ≤ fold (λ greatest row. max greatest (number row)) a rows
greatest-start number [] a = omega arith
greatest-start number (row ∷ rows) a =
    omega (arith, greatest-start number rows (max a (number row)))

greatest-each : (number : List K3 → ℕ) (rows : List (List K3)) (a : ℕ) (row : List K3) → Contains rows row
    → number row ≤ fold (λ greatest row. max greatest (number row)) a rows
greatest-each number [] a row (k, lt, at) = absurd (omega arith)
greatest-each number (other ∷ rows) a row (zero, lt, at) =
    let same : number other ≡ number row = ap number at
    in omega (arith, same, greatest-start number rows (max a (number other)))
greatest-each number (other ∷ rows) a row (suc k, lt, at) =
    greatest-each number rows (max a (number other)) row (k, omega arith, at)

greatest-least : (number : List K3 → ℕ) (rows : List (List K3)) (a bound : ℕ) → a ≤ bound
    → ((row : List K3) → Contains rows row → number row ≤ bound)
    → fold (λ greatest row. max greatest (number row)) a rows ≤ bound
greatest-least number [] a bound le each = le
greatest-least number (row ∷ rows) a bound le each =
    let first : number row ≤ bound = each row (0, omega arith, refl)
    in greatest-least number rows (max a (number row)) bound (omega (arith, le, first))
    (λ other has. each other (suc has.0, omega (arith, has.1), has.2))

greatest-below : (number : List K3 → ℕ) (rows others : List (List K3)) → Matches number rows others
    → greatest_of number rows ≤ greatest_of number others
unfolding Matches
greatest-below number rows others forth =
    greatest-least number rows 0 (greatest_of number others) (omega arith)
    (λ row has.
    let other = forth row has
    in omega (arith, other.2, greatest-each number others 0 other.0 other.1))

greatest-same : (number : List K3 → ℕ) (rows others : List (List K3)) → Matches number rows others
    → Matches number others rows → greatest_of number rows ≡ greatest_of number others
greatest-same number rows others forth back =
    omega (arith, greatest-below number rows others forth, greatest-below number others rows back)

-- ---- profiles

-- the value at a place of a profile
pub placed : (first : K3) → (value : ℕ → K3) → (place : ℕ) → K3
placed first value zero = first
placed first value (suc pred) = value pred

pub length-profile : (first : K3) (value : ℕ → K3) → length (profile_of first value) ≡ 256
length-profile first value = ap suc (length-map-range_with_len value 0 255)

get_or-profile : (first : K3) (value : ℕ → K3) (i : ℕ) → i < 256
    → get_or (profile_of first value) i No ≡ placed first value i
unfolding placed
get_or-profile first value zero lt = refl
get_or-profile first value (suc i) lt = get_or-map-range_with_len value 0 255 i i No (omega arith) (omega arith)

-- the values at the first n places stand in the row, with No behind them
pub record IsProfileTo (first : K3) (value : ℕ → K3) (n : ℕ) (row : List K3) : Type 0 where
  pub long : length row ≡ 256
  pub values : (i : ℕ) → i < n → get_or row i No ≡ placed first value i
  pub rest : (i : ℕ) → n ≤ i → get_or row i No ≡ No

profile-none : (first : K3) (value : ℕ → K3) (row : List K3) → row ≡ replicate 256 No → IsProfileTo first value 0 row
profile-none first value row is = record {
  long = ap length is ∙ length-replicate 256 No;
  values = λ i lt. absurd (omega arith);
  rest = λ i le. ap (λ r. get_or r i No) is ∙ no-replicate 256 i;
}

-- one more value
profile-put : (first : K3) (value : ℕ → K3) (n : ℕ) (row next : List K3) (k : K3) → IsProfileTo first value n row
    → n < 256 → next ≡ set row n k → k ≡ placed first value n → IsProfileTo first value (n + 1) next
profile-put first value n row next k before within is one = record {
  long = ap length is ∙ length-set row n k ∙ before.long;
  values = λ i lt. at i lt (cases_lt i n);
  rest = λ i le. ap (λ r. get_or r i No) is ∙ get_or-set_other row n i k No (λ e. omega arith) ∙ before.rest i (omega arith);
}
  where
    at : (i : ℕ) → i < n + 1 → (i < n) ⊎ (n ≤ i) → get_or next i No ≡ placed first value i
    at i lt (inl below) =
        ap (λ r. get_or r i No) is ∙ get_or-set_other row n i k No (λ e. omega arith) ∙ before.values i below
    at i lt (inr from) =
        let last : n ≡ i = omega arith
        in subst (λ x. get_or next x No ≡ placed first value x) last
        (ap (λ r. get_or r n No) is ∙ get_or-set_same row n k No (rw before.long within) ∙ one)

pub profile-more : (first : K3) (value : ℕ → K3) (n : ℕ) (row next : List K3) (k : K3) → IsProfileTo first value (n + 1) row
    → n < 255 → next ≡ set row (n + 1) k → k ≡ value n → IsProfileTo first value (n + 1 + 1) next
unfolding placed
profile-more first value n row next k before within is one =
    let here : placed first value (n + 1) ≡ value n = rw add-one refl
    in profile-put first value (n + 1) row next k before (omega (arith, within)) is (one ∙ sym here)

pub profile-first : (first : K3) (value : ℕ → K3) (row next : List K3) → row ≡ replicate 256 No → next ≡ set row 0 first
    → IsProfileTo first value 1 next
unfolding placed
profile-first first value row next none is =
    profile-put first value 0 row next first (profile-none first value row none) (omega arith) is refl

pub profile-begun : (value : ℕ → K3) (row : List K3) → row ≡ replicate 256 No → IsProfileTo No value 1 row
unfolding placed
profile-begun value row is =
    let none : IsProfileTo No value 0 row = profile-none No value row is
    in record { long = none.long; values = λ i lt. at i (omega arith); rest = λ i le. none.rest i (omega arith) }
  where
    at : (i : ℕ) → i ≡ 0 → get_or row i No ≡ placed No value i
    at zero e = ap (λ r. get_or r 0 No) is ∙ no-replicate 256 0
    at (suc i) e = absurd (omega (arith, e))

pub profile-all : (first : K3) (value : ℕ → K3) (n : ℕ) (row : List K3) → IsProfileTo first value (n + 1) row
    → ((pred : ℕ) → n ≤ pred → pred < 255 → value pred ≡ No) → row ≡ profile_of first value
unfolding placed
profile-all first value n row is absent =
    ext_get_or No row (profile_of first value) (is.long ∙ sym (length-profile first value))
    (λ i lt. at i (omega (arith, lt, is.long)) ∙ sym (get_or-profile first value i (omega (arith, lt, is.long))))
  where
    past : (i : ℕ) → i < 256 → n + 1 ≤ i → No ≡ placed first value i
    past zero lt le = absurd (omega (arith, le))
    past (suc pred) lt le = sym (absent pred (omega (arith, le)) (omega (arith, lt)))

    at : (i : ℕ) → i < 256 → get_or row i No ≡ placed first value i
    at i lt = side (cases_lt i (n + 1))
      where
        side : (i < n + 1) ⊎ (n + 1 ≤ i) → get_or row i No ≡ placed first value i
        side (inl below) = is.values i below
        side (inr from) = is.rest i from ∙ past i lt from

pub absent-nullary : (s : StructureForm) (pred : ℕ) → length (arities_of s) ≤ pred → nullary_value s pred ≡ No
absent-nullary s pred behind = value_at-past s pred [] behind

pub absent-near : (s : StructureForm) (u pred : ℕ) → length (arities_of s) ≤ pred → value_near s u pred ≡ No
absent-near s u pred behind =
    λ j. larger_of (value_at-past s pred (u ∷ []) behind j) (value_at-past s pred (u ∷ u ∷ []) behind j)

-- ---- rows that lie under others

join-Half : (k : K3) → join_of k Half ≡ Half
join-Half No = refl
join-Half Half = refl
join-Half Yes = refl

join-above : (x y : K3) → LiesUnder x y → join_of x y ≡ y
join-above x y (inl e) = ap (λ k. join_of k y) e ∙ join-same y
join-above x y (inr half) = ap (join_of x) half ∙ join-Half x ∙ sym half

pub join-rows : (xs ys : List K3) → length xs ≡ length ys → LieUnder xs ys → paired join_of xs ys ≡ ys
join-rows [] [] count under = refl
join-rows [] (y ∷ ys) count under = absurd (omega arith)
join-rows (x ∷ xs) [] count under = absurd (omega arith)
join-rows (x ∷ xs) (y ∷ ys) count under =
    let first : join_of x y ≡ y = join-above x y (under 0)
    in let rest : paired join_of xs ys ≡ ys = join-rows xs ys (omega arith) (λ i. under (suc i))
    in λ i. first i ∷ rest i

-- words of equal values have equal bits
pub word-equal : (xs ys : List K3) → xs ≡ ys
    → ((number_of is_possible xs == number_of is_possible ys) && (number_of is_certain xs == number_of is_certain ys)) ≡ true
word-equal xs ys e =
    let possible : (number_of is_possible xs == number_of is_possible ys) ≡ true
    = eq-eqb (number_of is_possible xs) (number_of is_possible ys) (ap (number_of is_possible) e)
    in let certain : (number_of is_certain xs == number_of is_certain ys) ≡ true
    = eq-eqb (number_of is_certain xs) (number_of is_certain ys) (ap (number_of is_certain) e)
    in λ i. possible i && certain i

-- where rows lie under others, so do their words
pub word-under : (xs ys word other : List K3) (c : ℕ) → c < 4 → length xs ≡ 256 → length ys ≡ 256 → length word ≡ 64
    → length other ≡ 64 → ((i : ℕ) → i < 64 → 64 * c + i < length xs → get_or word i No ≡ get_or xs (64 * c + i) No)
    → ((i : ℕ) → i < 64 → 64 * c + i < length ys → get_or other i No ≡ get_or ys (64 * c + i) No)
    → LieUnder xs ys → LieUnder word other
word-under xs ys word other c few long wide count many here there under place = at (cases_lt place 64)
  where
    at : (place < 64) ⊎ (64 ≤ place) → LiesUnder (get_or word place No) (get_or other place No)
    at (inl lt) =
        subst (λ x. LiesUnder x (get_or other place No)) (sym (here place lt (omega (arith, few, lt, long))))
        (subst (LiesUnder (get_or xs (64 * c + place) No)) (sym (there place lt (omega (arith, few, lt, wide))))
        (under (64 * c + place)))
    at (inr past) =
        inl (get_or_past word place No (omega (arith, count, past)) ∙ sym (get_or_past other place No (omega (arith, many, past))))

pub none-lie : (row : List K3) (others : List (List K3)) (n : ℕ) → length others ≤ n
    → ((k : ℕ) → k < n → ¬ LieUnder row (get_or others k [])) → Any (LieUnder row) others → ⊥
none-lie row others n all none (k, other, lt, at, under) =
    none k (omega (arith, lt, all)) (subst (LieUnder row) (sym (get_or_default others k [] other lt ∙ at)) under)

pub none-over : (other : List K3) (rows : List (List K3)) (n : ℕ) → length rows ≤ n
    → ((k : ℕ) → k < n → ¬ LieUnder (get_or rows k []) other) → Any (λ row. LieUnder row other) rows → ⊥
none-over other rows n all none (k, row, lt, at, under) =
    none k (omega (arith, lt, all)) (subst (λ r. LieUnder r other) (sym (get_or_default rows k [] row lt ∙ at)) under)

-- ---- where one row alone is above

pub above-more : (row : List K3) (others : List (List K3)) (from i : ℕ) (other : List K3) → other ≡ get_or others i other
    → i < length others → ¬ LieUnder row other
    → ((w : ℕ) → from ≤ w → w < i → ¬ LieUnder row (get_or others w []))
    → (w : ℕ) → from ≤ w → w < i + 1 → ¬ LieUnder row (get_or others w [])
above-more row others from i other is lt never before w le below = at (cases_lt w i)
  where
    at : (w < i) ⊎ (i ≤ w) → ¬ LieUnder row (get_or others w [])
    at (inl less) = before w le less
    at (inr more) =
        let here : i ≡ w = omega arith
        in subst (λ k. ¬ LieUnder row (get_or others k [])) here
        (subst (λ r. ¬ LieUnder row r) (is ∙ get_or_default others i other [] lt) never)

pub only-one : (row : List K3) (others : List (List K3)) (i w : ℕ)
    → ((k : ℕ) → 0 ≤ k → k < i → ¬ LieUnder row (get_or others k []))
    → ((k : ℕ) → i + 1 ≤ k → k < length others → ¬ LieUnder row (get_or others k []))
    → w < length others → LieUnder row (get_or others w []) → w ≡ i
only-one row others i w before behind lt under = at (cases_order w i)
  where
    at : (w ≡ i) ⊎ ((w < i) ⊎ (i < w)) → w ≡ i
    at (inl same) = same
    at (inr (inl less)) = absurd (before w (omega arith) less under)
    at (inr (inr more)) = absurd (behind w (omega arith) lt under)

-- the images of the first n rows
pub record AreImagesTo (rows others : List (List K3)) (n : ℕ) (images : List ℕ) : Type 0 where
  pub long : length images ≡ n
  pub only : (u w : ℕ) → u < n → w < length others → LieUnder (get_or rows u []) (get_or others w [])
      → w ≡ get_or images u 0

pub images-none : (rows others : List (List K3)) (images : List ℕ) → images ≡ [] → AreImagesTo rows others 0 images
images-none rows others images none = record { long = ap length none; only = λ u w lt. absurd (omega arith) }

pub images-more : (rows others : List (List K3)) (n i : ℕ) (row : List K3) (old new : List ℕ) → row ≡ get_or rows n []
    → new ≡ old ++ i ∷ [] → ((w : ℕ) → w < length others → LieUnder row (get_or others w []) → w ≡ i)
    → AreImagesTo rows others n old → AreImagesTo rows others (n + 1) new
images-more rows others n i row old new is put one before = record {
  long = ap length put ∙ length_push old i ∙ ap (λ k. k + 1) before.long;
  only = λ u w lt. at u w (cases_lt u n) lt;
}
  where
    at : (u w : ℕ) → (u < n) ⊎ (n ≤ u) → u < n + 1 → w < length others → LieUnder (get_or rows u []) (get_or others w [])
        → w ≡ get_or new u 0
    at u w (inl below) lt inside under =
        before.only u w below inside under
        ∙ sym (ap (λ xs. get_or xs u 0) put ∙ get_or_append_left old (i ∷ []) 0 u (omega (arith, below, before.long)))
    at u w (inr from) lt inside under =
        let here : u ≡ n = omega arith
        in one w inside
        (subst (λ r. LieUnder r (get_or others w [])) (ap (λ k. get_or rows k []) here ∙ sym is) under)
        ∙ sym (ap (λ xs. get_or xs u 0) put ∙ get_or_push old i 0 u (before.long ∙ sym here))

pub images-all : (rows others : List (List K3)) (n : ℕ) (images : List ℕ) → length rows ≤ n → n ≤ length rows
    → AreImagesTo rows others n images → AreOnlyImages rows others images
images-all rows others n images past within are = record {
  count = omega (arith, are.long, past, within);
  only = λ u w lt. are.only u w (omega (arith, lt, past));
}

-- ---- known predicates, one after the other

definite-set : (known values : List K3) (p : ℕ) → get_or values p No ≢ Half → IsDefinite known values
    → IsDefinite (set known p Yes) values
definite-set known values p ne before pred is = at (cases_eq pred p)
  where
    at : (pred ≡ p) ⊎ (pred ≢ p) → get_or values pred No ≢ Half
    at (inl e) = subst (λ q. get_or values q No ≢ Half) (sym e) ne
    at (inr differ) = before pred (λ none. is (get_or-set_other known p pred Yes No differ ∙ none))

pub known-none : (glance : GlanceForm) (known : List K3) → known ≡ replicate 256 No → AreKnown glance known
known-none glance known is = record {
  nullary = never glance.nullary;
  unary = λ k d lt. never (get_or glance.unary k d);
}
  where
    never : (values : List K3) → IsDefinite known values
    never values place some = absurd (some (ap (λ row. get_or row place No) is ∙ no-replicate 256 place))

pub known-more : (glance : GlanceForm) (known next : List K3) (p : ℕ) → next ≡ set known p Yes
    → get_or glance.nullary p No ≢ Half → All (λ row. get_or row p No ≢ Half) glance.unary → AreKnown glance known
    → AreKnown glance next
known-more glance known next p is nullary unary before = record {
  nullary = subst (λ row. IsDefinite row glance.nullary) (sym is) (definite-set known glance.nullary p nullary before.nullary);
  unary = λ k d lt.
      subst (λ row. IsDefinite row (get_or glance.unary k d)) (sym is)
      (definite-set known (get_or glance.unary k d) p (unary k d lt) (before.unary k d lt));
}

-- ---- profiles and numbers, one individual after the other

pub profiles-more : (s : StructureForm) (u : ℕ) (rows next : List (List K3)) (row : List K3)
    → rows ≡ map (profile_near s) (range_with_len 0 u) → next ≡ rows ++ row ∷ [] → row ≡ profile_near s u
    → next ≡ map (profile_near s) (range_with_len 0 (u + 1))
profiles-more s u rows next row before put is =
    put ∙ (λ j. before j ++ is j ∷ []) ∙ sym (map-range_with_len_more (profile_near s) 0 u u (omega arith))

pub length-slots : (number : List K3 → ℕ) (rows : List (List K3)) → length (slots_of number rows) ≡ 256
length-slots number rows = slots-length number rows (replicate 256 No) ∙ length-replicate 256 No

pub slots-more : (number : List K3 → ℕ) (rows : List (List K3)) (i n : ℕ) (row slots next : List K3) → i < length rows
    → row ≡ get_or rows i [] → n ≡ number row → slots ≡ slots_of number (take i rows) → next ≡ set slots (n % 251) Yes
    → next ≡ slots_of number (take (i + 1) rows)
slots-more number rows i n row slots next lt at is before put =
    put ∙ (λ j. set (before j) (is j % 251) Yes)
    ∙ ap (λ r. set (slots_of number (take i rows)) (number r % 251) Yes) at
    ∙ sym (fold_more (λ kept r. set kept (number r % 251) Yes) (replicate 256 No) rows i [] lt)

pub greatest-more : (number : List K3 → ℕ) (rows : List (List K3)) (i n : ℕ) (row : List K3) (greatest next : ℕ)
    → i < length rows → row ≡ get_or rows i [] → n ≡ number row → greatest ≡ greatest_of number (take i rows)
    → next ≡ max greatest n → next ≡ greatest_of number (take (i + 1) rows)
greatest-more number rows i n row greatest next lt at is before put =
    put ∙ (λ j. max (before j) (is j))
    ∙ ap (λ r. max (greatest_of number (take i rows)) (number r)) at
    ∙ sym (fold_more (λ most r. max most (number r)) 0 rows i [] lt)

pub number-all : (known : List K3) (glance : GlanceForm) (i greatest first middle last : ℕ) (slots : List K3)
    → length glance.unary ≤ i → slots ≡ slots_of (profile_number known) (take i glance.unary)
    → greatest ≡ greatest_of (profile_number known) (take i glance.unary) → first ≡ profile_number known glance.nullary
    → middle ≡ row_mixed first slots → last ≡ mixed middle greatest → last ≡ glance_number known glance
number-all known glance i greatest first middle last slots past are most start mid end =
    let all : take i glance.unary ≡ glance.unary = take_all i glance.unary past
    in let same : slots ≡ slots_of (profile_number known) glance.unary = are ∙ ap (slots_of (profile_number known)) all
    in let top : greatest ≡ greatest_of (profile_number known) glance.unary
    = most ∙ ap (greatest_of (profile_number known)) all
    in end ∙ ap (λ m. mixed m greatest) mid ∙ (λ j. mixed (row_mixed (start j) (same j)) (top j))

-- ---- slots of summaries, one individual after the other

half-or-not : (k : K3) → (k ≡ Half) ⊎ (k ≢ Half)
half-or-not No = inr (λ e. cc e)
half-or-not Half = inl refl
half-or-not Yes = inr (λ e. cc e)

pub summaries-none : (known : List K3) (rows : List (List K3)) (slots : List K3) → slots ≡ padded 0 (replicate 64 No)
    → AreSummariesTo known rows 0 slots
summaries-none known rows slots is = record {
  long = long;
  marked = λ u lt. absurd (omega arith);
  only = λ slot some. absurd (some (none slot (cases_lt slot 64)));
}
  where
    long : length slots ≡ 64
    long = ap length is ∙ no_word

    none : (slot : ℕ) → (slot < 64) ⊎ (64 ≤ slot) → get_or slots slot No ≡ No
    none slot (inl lt) = ap (λ xs. get_or xs slot No) is ∙ no_place slot lt
    none slot (inr past) = get_or_past slots slot No (omega (arith, past, long))

-- one more row
pub summaries-more : (known : List K3) (rows : List (List K3)) (n : ℕ) (row slots next : List K3) → row ≡ get_or rows n []
    → (get_or row 0 No ≡ Half → next ≡ set slots (slot_of known row) Yes) → (get_or row 0 No ≢ Half → next ≡ slots)
    → AreSummariesTo known rows n slots → AreSummariesTo known rows (n + 1) next
summaries-more known rows n row slots next is put kept before = by (half-or-not (get_or row 0 No))
  where
    Open : ℕ → Type 0
    Open u = get_or (get_or rows u []) 0 No ≡ Half

    last : (u : ℕ) → n ≤ u → u < n + 1 → get_or rows u [] ≡ row
    last u from lt = ap (λ k. get_or rows k []) (omega (arith, from, lt)) ∙ sym is

    by : (get_or row 0 No ≡ Half) ⊎ (get_or row 0 No ≢ Half) → AreSummariesTo known rows (n + 1) next
    by (inr not) = record {
      long = ap length (kept not) ∙ before.long;
      marked = λ u lt told. marked u lt told (cases_lt u n);
      only = λ slot some.
          let old = before.only slot (λ none. some (ap (λ xs. get_or xs slot No) (kept not) ∙ none))
          in (old.0, omega (arith, old.1), old.2, old.3);
    }
      where
        marked : (u : ℕ) → u < n + 1 → Open u → (u < n) ⊎ (n ≤ u) → get_or next (slot_of known (get_or rows u [])) No ≡ Yes
        marked u lt told (inl below) =
            ap (λ xs. get_or xs (slot_of known (get_or rows u [])) No) (kept not) ∙ before.marked u below told
        marked u lt told (inr from) = absurd (not (ap (λ r. get_or r 0 No) (sym (last u from lt)) ∙ told))
    by (inl half) = record {
      long = ap length (put half) ∙ length-set slots (slot_of known row) Yes ∙ before.long;
      marked = λ u lt told. marked u told lt (cases_lt u n);
      only = λ slot some. only slot some (cases_eq slot (slot_of known row));
    }
      where
        few : slot_of known row < length slots
        few = omega (arith, before.long)

        at : (slot : ℕ) → slot ≡ slot_of known row → get_or next slot No ≡ Yes
        at slot e =
            ap (λ xs. get_or xs slot No) (put half) ∙ ap (λ k. get_or (set slots (slot_of known row) Yes) k No) e
            ∙ get_or-set_same slots (slot_of known row) Yes No few

        other : (slot : ℕ) → slot ≢ slot_of known row → get_or next slot No ≡ get_or slots slot No
        other slot ne =
            ap (λ xs. get_or xs slot No) (put half) ∙ get_or-set_other slots (slot_of known row) slot Yes No ne

        marked : (u : ℕ) → Open u → u < n + 1 → (u < n) ⊎ (n ≤ u) → get_or next (slot_of known (get_or rows u [])) No ≡ Yes
        marked u told lt (inr from) = at (slot_of known (get_or rows u [])) (ap (slot_of known) (last u from lt))
        marked u told lt (inl below) = side (cases_eq (slot_of known (get_or rows u [])) (slot_of known row))
          where
            side : (slot_of known (get_or rows u []) ≡ slot_of known row) ⊎ (slot_of known (get_or rows u []) ≢ slot_of known row)
                → get_or next (slot_of known (get_or rows u [])) No ≡ Yes
            side (inl e) = at (slot_of known (get_or rows u [])) e
            side (inr ne) = other (slot_of known (get_or rows u [])) ne ∙ before.marked u below told

        only : (slot : ℕ) → get_or next slot No ≢ No → (slot ≡ slot_of known row) ⊎ (slot ≢ slot_of known row)
            → (u : ℕ) × (u < n + 1) × Open u × (slot_of known (get_or rows u []) ≡ slot)
        only slot some (inl e) =
            (n, omega arith, ap (λ r. get_or r 0 No) (sym is) ∙ half, ap (slot_of known) (sym is) ∙ sym e)
        only slot some (inr ne) =
            let old = before.only slot (λ none. some (other slot ne ∙ none))
            in (old.0, omega (arith, old.1), old.2, old.3)

pub summaries-all : (known : List K3) (rows items : List (List K3)) (n : ℕ) (slots : List K3) → items ≡ rows → length items ≤ n
    → n ≤ length items → AreSummariesTo known rows n slots → AreSummaries known rows slots
summaries-all known rows items n slots same past within are =
    let count : n ≡ length rows = omega (arith, past, within, ap length same)
    in subst (λ k. AreSummariesTo known rows k slots) count are

smaller-of-No : (k : K3) → smaller_of No k ≡ No
smaller-of-No k = refl

half-under : (x y : K3) → x ≡ Half → LiesUnder x y → y ≡ Half
half-under x y half (inl e) = sym e ∙ half
half-under x y half (inr told) = told

-- ---- what is above says the same of what is known in it, and more is left open there

larger-under : (x y : K3) (below above : K3) → LiesUnder x below → LiesUnder y above → LiesUnder (larger_of x y) (larger_of below above)
larger-under x y below above (inl e) (inl f) = inl (λ i. larger_of (e i) (f i))
larger-under x y No above (inl e) (inr half) = inr half
larger-under x y Half above (inl e) (inr half) = inr (ap (larger_of Half) half)
larger-under x y Yes above (inl e) (inr half) = inl (ap (λ k. larger_of k y) e)
larger-under x y below No (inr half) (inl f) = inr (ap (λ k. larger_of k No) half)
larger-under x y below Half (inr half) (inl f) = inr (ap (λ k. larger_of k Half) half)
larger-under x y below Yes (inr half) (inl f) = inl (ap (larger_of x) f ∙ larger-yes x ∙ sym (ap (λ k. larger_of k Yes) half))
larger-under x y below above (inr half) (inr other) = inr (λ i. larger_of (half i) (other i))

module _ (s t : StructureForm) (f : ℕ → ℕ) (e : Embeds f (structure_of s) (structure_of t))
    (same : arities_of s ≡ arities_of t) where
  none : All (Contains (range_with_len 0 s.size)) []
  none = All-nil (Contains (range_with_len 0 s.size))

  one : (u : ℕ) → u < s.size → All (Contains (range_with_len 0 s.size)) (u ∷ [])
  one u lt = All-cons (Contains (range_with_len 0 s.size)) u [] (Contains-range s.size u lt) none

  two : (u : ℕ) → u < s.size → All (Contains (range_with_len 0 s.size)) (u ∷ u ∷ [])
  two u lt = All-cons (Contains (range_with_len 0 s.size)) u (u ∷ []) (Contains-range s.size u lt) (one u lt)

  near-under : (u : ℕ) → u < s.size → (pred : ℕ) → LiesUnder (value_near s u pred) (value_near t (f u) pred)
  near-under u lt pred =
      larger-under (value_at s pred (u ∷ [])) (value_at s pred (u ∷ u ∷ [])) (value_at t pred (f u ∷ []))
      (value_at t pred (f u ∷ f u ∷ [])) (e.values pred tt (u ∷ []) (one u lt)) (e.values pred tt (u ∷ u ∷ []) (two u lt))

  profile-under : (first last : K3) (below above : ℕ → K3) → LiesUnder first last
      → ((pred : ℕ) → LiesUnder (below pred) (above pred)) → LieUnder (profile_of first below) (profile_of last above)
  unfolding placed
  profile-under first last below above start under place = at (cases_lt place 256)
    where
      each : (i : ℕ) → LiesUnder (placed first below i) (placed last above i)
      each zero = start
      each (suc pred) = under pred

      at : (place < 256) ⊎ (256 ≤ place)
          → LiesUnder (get_or (profile_of first below) place No) (get_or (profile_of last above) place No)
      at (inl lt) =
          subst (LiesUnder (get_or (profile_of first below) place No)) (sym (get_or-profile last above place lt))
          (subst (λ x. LiesUnder x (placed last above place)) (sym (get_or-profile first below place lt)) (each place))
      at (inr past) =
          inl (get_or_past (profile_of first below) place No (omega (arith, length-profile first below, past))
          ∙ sym (get_or_past (profile_of last above) place No (omega (arith, length-profile last above, past))))

  member : (x : StructureForm) (u : ℕ) → u < x.size → Contains (glance_of x).unary (profile_near x u)
  member x u lt = (
    u,
    rw (length-map-range_with_len (profile_near x) 0 x.size) lt,
    get_or-map-range_with_len (profile_near x) 0 x.size u u (profile_near x u) lt (omega arith),
  )

  origin : (x : StructureForm) (row : List K3) → Contains (glance_of x).unary row
      → (u : ℕ) × (u < x.size) × (row ≡ profile_near x u)
  origin x row (k, lt, at) =
      let within : k < x.size = rw (← length-map-range_with_len (profile_near x) 0 x.size) lt
      in (k, within, sym at ∙ get_or-map-range_with_len (profile_near x) 0 x.size k k row within (omega arith))

  image : (u : ℕ) → u < s.size → f u < t.size
  image u lt = below-range t.size (f u) (e.into u (Contains-range s.size u lt))

  flag-under : (a b : Bool) → (IsTrue a → IsTrue b) → LiesUnder (flag_value a) (flag_value b)
  flag-under false false on = inl refl
  flag-under false true on = inr refl
  flag-under true false on = absurd (cc (on refl))
  flag-under true true on = inl refl

  near-lies : (u : ℕ) → u < s.size → LieUnder (profile_near s u) (profile_near t (f u))
  near-lies u lt =
      profile-under (flag_value (summary_at s u)) (flag_value (summary_at t (f u))) (value_near s u) (value_near t (f u))
      (flag-under (summary_at s u) (summary_at t (f u)) (e.summaries u (Contains-range s.size u lt))) (near-under u lt)

  nullary-lies : LieUnder (profile_of No (nullary_value s)) (profile_of No (nullary_value t))
  nullary-lies = profile-under No No (nullary_value s) (nullary_value t) (inl refl) (λ pred. e.values pred tt [] none)

  row-of : (x : StructureForm) (k : ℕ) (d : List K3) → k < length (glance_of x).unary
      → (u : ℕ) × (u < x.size) × (get_or (glance_of x).unary k d ≡ profile_near x u)
  row-of x k d lt =
      origin x (get_or (glance_of x).unary k d)
      (k, lt, get_or_default (glance_of x).unary k (get_or (glance_of x).unary k d) d lt)

  may : MayEmbed (glance_of s) (glance_of t)
  may = record {
    nullary = nullary-lies;
    into = λ k d lt. above k d (row-of s k d lt);
    onto = λ k d lt. below k d (row-of t k d lt);
  }
    where
      above : (k : ℕ) (d : List K3) → ((u : ℕ) × (u < s.size) × (get_or (glance_of s).unary k d ≡ profile_near s u))
          → Any (LieUnder (get_or (glance_of s).unary k d)) (glance_of t).unary
      above k d (u, lt, is) =
          let has : Contains (glance_of t).unary (profile_near t (f u)) = member t (f u) (image u lt)
          in (
            has.0,
            profile_near t (f u),
            has.1,
            has.2,
            subst (λ row. LieUnder row (profile_near t (f u))) (sym is) (near-lies u lt),
          )

      below : (k : ℕ) (d : List K3) → ((w : ℕ) × (w < t.size) × (get_or (glance_of t).unary k d ≡ profile_near t w))
          → Any (λ row. LieUnder row (get_or (glance_of t).unary k d)) (glance_of s).unary
      below k d (w, lt, is) =
          let u = e.onto w (Contains-range t.size w lt)
          in let low : u.0 < s.size = below-range s.size u.0 u.1
          in let has : Contains (glance_of s).unary (profile_near s u.0) = member s u.0 low
          in let same : profile_near t (f u.0) ≡ get_or (glance_of t).unary k d = ap (profile_near t) u.2 ∙ sym is
          in (has.0, profile_near s u.0, has.1, has.2, subst (LieUnder (profile_near s u.0)) same (near-lies u.0 low))

  only-image : (images : List ℕ) → IsOnlyMap (glance_of s) (glance_of t) images → (u : ℕ) → u < s.size
      → f u ≡ slice_index images u
  only-image images is u lt =
      let row : get_or (glance_of s).unary u [] ≡ profile_near s u
      = get_or-map-range_with_len (profile_near s) 0 s.size u u [] lt (omega arith)
      in let other : get_or (glance_of t).unary (f u) [] ≡ profile_near t (f u)
      = get_or-map-range_with_len (profile_near t) 0 t.size (f u) (f u) [] (image u lt) (omega arith)
      in is.only u (f u) (rw (length-map-range_with_len (profile_near s) 0 s.size) lt)
      (rw (length-map-range_with_len (profile_near t) 0 t.size) (image u lt))
      (subst (LieUnder (get_or (glance_of s).unary u [])) (sym other)
      (subst (λ r. LieUnder r (profile_near t (f u))) (sym row) (near-lies u lt)))

  module _ (known : List K3) (are : AreKnown (glance_of t) known) where
    number-under : (below above : List K3) → length below ≡ length above → LieUnder below above → IsDefinite known above
        → profile_number known below ≡ profile_number known above
    number-under below above count under definite =
        ap (row_mixed 0) (known-same below above known count (λ i lt. under i) definite)

    count : (first last : K3) (below above : ℕ → K3) → length (profile_of first below) ≡ length (profile_of last above)
    count first last below above = length-profile first below ∙ sym (length-profile last above)

    near-same : (u : ℕ) → u < s.size
        → profile_number known (profile_near s u) ≡ profile_number known (profile_near t (f u))
    near-same u lt =
        let has : Contains (glance_of t).unary (profile_near t (f u)) = member t (f u) (image u lt)
        in let definite : IsDefinite known (profile_near t (f u))
        = subst (IsDefinite known) has.2 (are.unary has.0 (profile_near t (f u)) has.1)
        in number-under (profile_near s u) (profile_near t (f u))
        (count (flag_value (summary_at s u)) (flag_value (summary_at t (f u))) (value_near s u) (value_near t (f u)))
        (near-lies u lt) definite

    forth : Matches (profile_number known) (glance_of s).unary (glance_of t).unary
    unfolding Matches
    forth row has =
        let u = origin s row has
        in (
          profile_near t (f u.0),
          member t (f u.0) (image u.0 u.1),
          ap (profile_number known) u.2 ∙ near-same u.0 u.1,
        )

    back : Matches (profile_number known) (glance_of t).unary (glance_of s).unary
    unfolding Matches
    back row has =
        let w = origin t row has
        in let u = e.onto w.0 (Contains-range t.size w.0 w.1)
        in let low : u.0 < s.size = below-range s.size u.0 u.1
        in (
          profile_near s u.0,
          member s u.0 low,
          ap (profile_number known) w.2 ∙ ap (λ x. profile_number known (profile_near t x)) (sym u.2)
              ∙ sym (near-same u.0 low),
        )

    number-same : glance_number known (glance_of s) ≡ glance_number known (glance_of t)
    number-same =
        let nullary : profile_number known (profile_of No (nullary_value s)) ≡ profile_number known (profile_of No (nullary_value t))
        = number-under (profile_of No (nullary_value s)) (profile_of No (nullary_value t))
        (count No No (nullary_value s) (nullary_value t)) nullary-lies are.nullary
        in let slots : slots_of (profile_number known) (glance_of s).unary ≡ slots_of (profile_number known) (glance_of t).unary
        = slots-same (profile_number known) (glance_of s).unary (glance_of t).unary forth back
        in let greatest : greatest_of (profile_number known) (glance_of s).unary
        ≡ greatest_of (profile_number known) (glance_of t).unary
        = greatest-same (profile_number known) (glance_of s).unary (glance_of t).unary forth back
        in λ i. mixed (row_mixed (nullary i) (slots i)) (greatest i)

    -- a slot of a summary below is one of a summary above
    above : (others : List K3) → AreSummaries known (glance_of t).unary others → (slot v : ℕ) → v < s.size
        → get_or (profile_near s v) 0 No ≡ Half → slot_of known (profile_near s v) ≡ slot → get_or others slot No ≡ Yes
    above others marks slot v lt told is =
        let has : Contains (glance_of t).unary (profile_near t (f v)) = member t (f v) (image v lt)
        in let row : get_or (glance_of t).unary has.0 [] ≡ profile_near t (f v)
        = get_or_default (glance_of t).unary has.0 [] (profile_near t (f v)) has.1 ∙ has.2
        in let half : get_or (profile_near t (f v)) 0 No ≡ Half
        = half-under (get_or (profile_near s v) 0 No) (get_or (profile_near t (f v)) 0 No) told (near-lies v lt 0)
        in let same_slot : slot_of known (get_or (glance_of t).unary has.0 []) ≡ slot
        = ap (slot_of known) row ∙ ap (λ n. n % 61) (sym (near-same v lt)) ∙ is
        in subst (λ k. get_or others k No ≡ Yes) same_slot
        (marks.marked has.0 has.1 (ap (λ r. get_or r 0 No) row ∙ half))

    summaries-in : (slots others : List K3) → AreSummaries known (glance_of s).unary slots
        → AreSummaries known (glance_of t).unary others → AreWithin slots others
    summaries-in slots others below marks =
        ext_get_or No (paired smaller_of slots others) slots long
        (λ i lt. at i (rw (← long) lt) (value-decided (get_or slots i No) No))
      where
        long : length (paired smaller_of slots others) ≡ length slots
        long = length-paired smaller_of slots others (below.long ∙ sym marks.long)

        read : (i : ℕ) → i < length slots
            → get_or (paired smaller_of slots others) i No ≡ smaller_of (get_or slots i No) (get_or others i No)
        read i lt = get_or-paired smaller_of slots others i lt (omega (arith, lt, below.long, marks.long))

        at : (i : ℕ) → i < length slots → (get_or slots i No ≡ No) ⊎ (get_or slots i No ≢ No)
            → get_or (paired smaller_of slots others) i No ≡ get_or slots i No
        at i lt (inl none) =
            read i lt ∙ ap (λ k. smaller_of k (get_or others i No)) none ∙ smaller-of-No (get_or others i No) ∙ sym none
        at i lt (inr some) =
            let u = below.only i some
            in let v = row-of s u.0 [] u.1
            in let yes : get_or others i No ≡ Yes
            = above others marks i v.0 v.1 (ap (λ r. get_or r 0 No) (sym v.2) ∙ u.2) (ap (slot_of known) (sym v.2) ∙ u.3)
            in read i lt ∙ ap (smaller_of (get_or slots i No)) yes ∙ smaller-yes (get_or slots i No)

-- where s embeds in t, the slots of its summaries are among those of t
pub summaries-within : (s t : StructureForm) → arities_of s ≡ arities_of t → IsEmbedded (structure_of s) (structure_of t)
    → (known : List K3) → AreKnown (glance_of t) known → (slots others : List K3)
    → AreSummaries known (glance_of s).unary slots → AreSummaries known (glance_of t).unary others → AreWithin slots others
summaries-within s t same (f, e) known are slots others below marks =
    summaries-in s t f e same known are slots others below marks

pub glance-same : (s t : StructureForm) → arities_of s ≡ arities_of t → IsEmbedded (structure_of s) (structure_of t)
    → (known : List K3) → AreKnown (glance_of t) known → glance_number known (glance_of s) ≡ glance_number known (glance_of t)
glance-same s t same (f, e) known are = number-same s t f e same known are

pub may-embed : (s t : StructureForm) → arities_of s ≡ arities_of t → IsEmbedded (structure_of s) (structure_of t)
    → MayEmbed (glance_of s) (glance_of t)
may-embed s t same (f, e) = may s t f e same

-- what is known in a structure above is known below
definite-below : (known below above : List K3) → LieUnder below above → IsDefinite known above → IsDefinite known below
definite-below known below above under is place some half =
    is place some (half-under (get_or below place No) (get_or above place No) half (under place))

pub known-below : (s t : StructureForm) (known : List K3) → arities_of s ≡ arities_of t
    → IsEmbedded (structure_of s) (structure_of t) → AreKnown (glance_of t) known → AreKnown (glance_of s) known
known-below s t known same embedded are = record {
  nullary = definite-below known (glance_of s).nullary (glance_of t).nullary may.nullary are.nullary;
  unary = λ k d lt.
      let above = may.into k d lt
      in definite-below known (get_or (glance_of s).unary k d) above.1 above.4
      (subst (IsDefinite known) above.3 (are.unary above.0 above.1 above.2));
}
  where
    may : MayEmbed (glance_of s) (glance_of t)
    may = may-embed s t same embedded

-- the only map that may be an embedding is each that is one
pub same-map : (s t : StructureForm) (images other : List ℕ) → arities_of s ≡ arities_of t
    → IsOnlyMap (glance_of s) (glance_of t) images → IsEmbedding s t other → other ≡ images
same-map s t images other same is e =
    ext_get_or 0 other images
    (e.0 ∙ sym (is.count ∙ length-map-range_with_len (profile_near s) 0 s.size))
    (λ u lt. only-image s t (image_of other) e.1 same images is u (omega (arith, lt, e.0)))

-- ---- marks of what is known, one row after the other

definite-or-not : (k : K3) → k ≢ Half → larger_of k (negation_of k) ≡ Yes
definite-or-not No is = refl
definite-or-not Half is = absurd (is refl)
definite-or-not Yes is = refl

smaller-of-Yes : (k : K3) → smaller_of k Yes ≡ k
smaller-of-Yes No = refl
smaller-of-Yes Half = refl
smaller-of-Yes Yes = refl

pub length-either : (row : List K3) → length row ≡ 256 → length (paired larger_of row (map negation_of row)) ≡ 256
length-either row wide =
    length-paired larger_of row (map negation_of row) (wide ∙ sym (length-map row negation_of ∙ wide)) ∙ wide

pub marks-more : (marks row : List K3) (place : ℕ) → length marks ≡ 256 → length row ≡ 256 → place < 256
    → get_or marks place No ≡ Yes → get_or row place No ≢ Half
    → get_or (paired smaller_of marks (paired larger_of row (map negation_of row))) place No ≡ Yes
marks-more marks row place long wide lt on definite =
    let many : length (map negation_of row) ≡ 256 = length-map row negation_of ∙ wide
    in let both : length (paired larger_of row (map negation_of row)) ≡ 256 = length-either row wide
    in let here : place < length row = omega (arith, wide, lt)
    in get_or-paired smaller_of marks (paired larger_of row (map negation_of row)) place (omega (arith, long, lt))
    (omega (arith, both, lt))
    ∙ ap (λ k. smaller_of k (get_or (paired larger_of row (map negation_of row)) place No)) on
    ∙ ap (smaller_of Yes)
    (get_or-paired larger_of row (map negation_of row) place here (omega (arith, many, lt))
    ∙ ap (larger_of (get_or row place No)) (get_or-map negation_of row place No No here)
    ∙ definite-or-not (get_or row place No) definite)

-- what is marked in the other list stays
pub marked-same : (known marks : List K3) → length known ≡ 256 → length marks ≡ 256 → AreWithinMarks known marks
    → paired smaller_of known marks ≡ known
marked-same known marks long wide are =
    ext_get_or No (paired smaller_of known marks) known count
    (λ i lt. at i (omega (arith, lt, count)) (value-decided (get_or known i No) No))
  where
    count : length (paired smaller_of known marks) ≡ length known
    count = length-paired smaller_of known marks (long ∙ sym wide)

    at : (i : ℕ) → i < length known → (get_or known i No ≡ No) ⊎ (¬ (get_or known i No ≡ No))
        → get_or (paired smaller_of known marks) i No ≡ get_or known i No
    at i lt (inl none) =
        get_or-paired smaller_of known marks i lt (omega (arith, lt, long, wide))
        ∙ ap (λ k. smaller_of k (get_or marks i No)) none ∙ sym none
    at i lt (inr some) =
        get_or-paired smaller_of known marks i lt (omega (arith, lt, long, wide))
        ∙ ap (smaller_of (get_or known i No)) (are i (omega (arith, lt, long)) some)
        ∙ smaller-of-Yes (get_or known i No)

-- the places at which the first n rows are known are marked
pub AreMarkedTo : GlanceForm → (n : ℕ) → (marks : List K3) → Type 0
AreMarkedTo glance n marks =
    (place : ℕ) → place < 256 → get_or glance.nullary place No ≢ Half
    → ((k : ℕ) → k < n → k < length glance.unary → get_or (get_or glance.unary k []) place No ≢ Half)
    → get_or marks place No ≡ Yes

-- what the marks are after one more row
abbrev pub GoesOnTo : (marks row next : List K3) → Type 0
GoesOnTo marks row next =
    (place : ℕ) → place < 256 → get_or marks place No ≡ Yes → get_or row place No ≢ Half → get_or next place No ≡ Yes

pub marked-first : (glance : GlanceForm) (all row marks : List K3) → all ≡ replicate 256 Yes → row ≡ glance.nullary
    → GoesOnTo all row marks → AreMarkedTo glance 0 marks
unfolding AreMarkedTo
marked-first glance all row marks full is goes place lt nullary unary =
    goes place lt (ap (λ r. get_or r place No) full ∙ get_or-replicate 256 place Yes No lt)
    (subst (λ r. get_or r place No ≢ Half) (sym is) nullary)

pub marked-more : (glance : GlanceForm) (n : ℕ) (row marks next : List K3) → n < length glance.unary
    → row ≡ get_or glance.unary n [] → AreMarkedTo glance n marks → GoesOnTo marks row next
    → AreMarkedTo glance (n + 1) next
unfolding AreMarkedTo
marked-more glance n row marks next inside is before goes place lt nullary unary =
    goes place lt (before place lt nullary (λ k less within. unary k (omega (arith, less)) within))
    (subst (λ r. get_or r place No ≢ Half) (sym is) (unary n (omega arith) inside))

pub marked-all : (glance : GlanceForm) (n : ℕ) (marks known : List K3) → AreMarkedTo glance n marks
    → AreKnown glance known → AreWithinMarks known marks
unfolding AreMarkedTo
marked-all glance n marks known all are place lt some =
    all place lt (are.nullary place some) (λ k less within. are.unary k [] within place some)
