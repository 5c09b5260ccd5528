-- Rows of a predicate's values: where they are Yes, and whether any is unknown.
use Rattle.std.proofs.Common.{ℕ, zero, suc, ◌≡◌, ◌≢◌, ◌<◌, ◌≤◌, ◌+◌, ◌-◌, Bool, true, false, not, ◌&&◌, ◌||◌}
use Rattle.std.proofs.Common.{List, [], ◌∷◌, ◌++◌, get_or, drop, take, length, map, replicate, cond, refl}
use Rattle.std.proofs.Common.{sym, ap, subst, ◌∙◌, arith, add-one}
use Rattle.std.specs.Prelude.{Any, if◌then◌else◌}
use Rattle.std.specs.List.{range_with_len, filter, list_any}
use Rattle.std.proofs.lemmas.List.{append-nil, drop_more, take_rest, get_or_default, get_or-map}
use Rattle.std.proofs.lemmas.List.{get_or-replicate, length-map, length-replicate}
use Rattle.std.proofs.lemmas.List.FromFn.{length-map-range_with_len, get_or-map-range_with_len}
use Rattle.std.proofs.Math.Bool.{and-false}
use Rattle.tv_kleene.specs.declared.K3.{K3}
use Rattle.tv_kleene.specs.declared.K3.TheVariants.{No, Half, Yes}
use Rattle.tv_kleene.specs.Kleene.{larger_of, negation_of, smaller_of, is_yes}
use Rattle.tv_row.specs.Bits.{paired}
use Rattle.tv_row.proofs.WordOps.{length-paired, get_or-paired}
use Rattle.tv_structure_form.specs.StructureForm.{StructureForm, structure_of, summary_at, value_at}
use Rattle.tv_struct.specs.StructureRows.{unary_row}
use Rattle.tv_struct.proofs.Library.{length-unary_row}
use Rattle.tv_focus_laws.specs.Counts.{halves}
use Rattle.tv_focus_laws.specs.FocusAtoms.{ordinary}
use Rattle.tv_focus.specs.Anchored.{IsReached, pair_of}
use Rattle.tv_focus.specs.declared.anchors.Place.{Place}
use Rattle.tv_focus.proofs.Filters.{filter_range_more}

-- ---- filters over the numbers below a bound

filter_same : (p q : ℕ → Bool) (n : ℕ) → ((u : ℕ) → u < n → p u ≡ q u)
    → filter p (range_with_len 0 n) ≡ filter q (range_with_len 0 n)
filter_same p q zero same = refl
filter_same p q (suc n) same =
    let more : filter p (range_with_len 0 (n + 1)) ≡ filter q (range_with_len 0 (n + 1))
    = filter_range_more p n
    ∙ ap (λ xs. xs ++ cond (p n) (n ∷ []) []) (filter_same p q n (λ u lt. same u (omega (arith, lt))))
    ∙ ap (λ b. filter q (range_with_len 0 n) ++ cond b (n ∷ []) []) (same n (omega arith))
    ∙ sym (filter_range_more q n)
    in subst (λ m. filter p (range_with_len 0 m) ≡ filter q (range_with_len 0 m)) (add-one n) more

filter_skip : (p : ℕ → Bool) (n m : ℕ) → ((u : ℕ) → n ≤ u → u < n + m → p u ≡ false)
    → filter p (range_with_len 0 (n + m)) ≡ filter p (range_with_len 0 n)
filter_skip p n zero none = ap (λ k. filter p (range_with_len 0 k)) (omega arith)
filter_skip p n (suc m) none =
    let next : n + suc m ≡ (n + m) + 1 = omega arith
    in ap (λ k. filter p (range_with_len 0 k)) next
    ∙ filter_range_more p (n + m)
    ∙ ap (λ b. filter p (range_with_len 0 (n + m)) ++ cond b ((n + m) ∷ []) []) (none (n + m) (omega arith) (omega arith))
    ∙ append-nil (filter p (range_with_len 0 (n + m)))
    ∙ filter_skip p n m (λ u le lt. none u le (omega (arith, lt)))

filter_to : (p : ℕ → Bool) (n u : ℕ) → n ≤ u → ((v : ℕ) → n ≤ v → v < u → p v ≡ false)
    → filter p (range_with_len 0 u) ≡ filter p (range_with_len 0 n)
filter_to p n u le none =
    let same : u ≡ n + (u - n) = omega (arith, le)
    in ap (λ k. filter p (range_with_len 0 k)) same
    ∙ filter_skip p n (u - n) (λ v low high. none v low (omega (arith, high, le)))

-- ---- ordinary individuals of a row

abbrev is_found : StructureForm → (row : List K3) → ℕ → Bool
is_found s row u = not (summary_at s u) && is_yes (get_or row u No)

and_true : (b : Bool) → (b && true) ≡ b
and_true true = refl
and_true false = refl

not_yes : (k : K3) → k ≢ Yes → is_yes k ≡ false
not_yes No ne = refl
not_yes Half ne = refl
not_yes Yes ne = absurd (ne refl)

passed-over : (s : StructureForm) (row : List K3) (u : ℕ) → get_or row u No ≢ Yes → is_found s row u ≡ false
passed-over s row u ne =
    ap (λ b. not (summary_at s u) && b) (not_yes (get_or row u No) ne) ∙ and-false (not (summary_at s u))

-- those found before a number
abbrev pub found_before : StructureForm → (row : List K3) → ℕ → List ℕ
found_before s row n = filter (is_found s row) (range_with_len 0 n)

pub found_next : (s : StructureForm) (row : List K3) (from u : ℕ) (old new : List ℕ) → old ≡ found_before s row from
    → from ≤ u → ((v : ℕ) → from ≤ v → v < u → get_or row v No ≢ Yes) → get_or row u No ≡ Yes
    → new ≡ old ++ (if not (summary_at s u) then u ∷ [] else []) → new ≡ found_before s row (u + 1)
found_next s row from u old new before le none sure is =
    is
    ∙ ap (λ xs. xs ++ cond (not (summary_at s u)) (u ∷ []) [])
    (before ∙ sym (filter_to (is_found s row) from u le (λ v low high. passed-over s row v (none v low high))))
    ∙ ap (λ b. found_before s row u ++ cond b (u ∷ []) [])
    (sym (ap (λ k. not (summary_at s u) && is_yes k) sure ∙ and_true (not (summary_at s u))))
    ∙ sym (filter_range_more (is_found s row) u)

pub found_all : (s : StructureForm) (row : List K3) (from : ℕ) (old : List ℕ) → old ≡ found_before s row from
    → from ≤ length row → length row ≡ s.size → ((v : ℕ) → from ≤ v → v < length row → get_or row v No ≢ Yes)
    → old ≡ ordinary (structure_of s) (λ u. is_yes (get_or row u No))
found_all s row from old before le long none =
    before
    ∙ sym (filter_to (is_found s row) from s.size (omega (arith, le, long))
    (λ v low high. passed-over s row v (none v low (omega (arith, high, long)))))

ordinary_same : (s : StructureForm) (f g : ℕ → Bool) → ((u : ℕ) → u < s.size → f u ≡ g u)
    → ordinary (structure_of s) f ≡ ordinary (structure_of s) g
ordinary_same s f g same =
    filter_same (λ u. not (summary_at s u) && f u) (λ u. not (summary_at s u) && g u) s.size
    (λ u lt. ap (λ b. not (summary_at s u) && b) (same u lt))

pub ordinary_unary : (s : StructureForm) (pred : ℕ) (row : List K3) → row ≡ unary_row s pred
    → ordinary (structure_of s) (λ u. is_yes (get_or row u No)) ≡ ordinary (structure_of s) (λ u. is_yes (value_at s pred (u ∷ [])))
ordinary_unary s pred row is =
    ordinary_same s (λ u. is_yes (get_or row u No)) (λ u. is_yes (value_at s pred (u ∷ [])))
    (λ u lt. ap is_yes (ap (λ r. get_or r u No) is
    ∙ get_or-map-range_with_len (λ w. value_at s pred (w ∷ [])) 0 s.size u u No lt (omega arith)))

pub ordinary_reached : (s : StructureForm) (pred : ℕ) (place : Place) (anchors : List ℕ) (row : List K3)
    → IsReached s pred place anchors row
    → ordinary (structure_of s) (λ u. is_yes (get_or row u No))
    ≡ ordinary (structure_of s) (λ u. list_any (λ a. is_yes (value_at s pred (pair_of place a u))) anchors)
ordinary_reached s pred place anchors row reached =
    ordinary_same s (λ u. is_yes (get_or row u No)) (λ u. list_any (λ a. is_yes (value_at s pred (pair_of place a u))) anchors)
    reached.yes

-- ---- lines of anchors

-- the values at the pairs of the anchor
abbrev pub line_of : StructureForm → (pred : ℕ) → Place → ℕ → List K3
line_of s pred place a = map (λ u. value_at s pred (pair_of place a u)) (range_with_len 0 s.size)

pub length-line : (s : StructureForm) (pred : ℕ) (place : Place) (a : ℕ) → length (line_of s pred place a) ≡ s.size
length-line s pred place a = length-map-range_with_len (λ u. value_at s pred (pair_of place a u)) 0 s.size

get_or-line : (s : StructureForm) (pred : ℕ) (place : Place) (a u : ℕ) → u < s.size
    → get_or (line_of s pred place a) u No ≡ value_at s pred (pair_of place a u)
get_or-line s pred place a u lt =
    get_or-map-range_with_len (λ w. value_at s pred (pair_of place a w)) 0 s.size u u No lt (omega arith)

pub reached-none : (s : StructureForm) (pred : ℕ) (place : Place) (row : List K3) → row ≡ replicate s.size No
    → IsReached s pred place [] row
reached-none s pred place row is = record {
  long = ap length is ∙ length-replicate s.size No;
  yes = λ u lt. ap is_yes (ap (λ r. get_or r u No) is ∙ get_or-replicate s.size u No No lt);
}

yes-larger : (x y : K3) → is_yes (larger_of x y) ≡ (is_yes x || is_yes y)
yes-larger No y = refl
yes-larger Half No = refl
yes-larger Half Half = refl
yes-larger Half Yes = refl
yes-larger Yes y = refl

reached-more : (s : StructureForm) (pred : ℕ) (place : Place) (a : ℕ) (rest : List ℕ) (line later row : List K3)
    → line ≡ line_of s pred place a → IsReached s pred place rest later → row ≡ paired larger_of line later
    → IsReached s pred place (a ∷ rest) row
reached-more s pred place a rest line later row line_is reached is = record {
  long = ap length is ∙ length-paired larger_of line later (long ∙ sym reached.long) ∙ long;
  yes = λ u lt.
      ap is_yes (ap (λ r. get_or r u No) is
      ∙ get_or-paired larger_of line later u (omega (arith, long, lt)) (omega (arith, reached.long, lt)))
      ∙ yes-larger (get_or line u No) (get_or later u No)
      ∙ ap (λ b. b || is_yes (get_or later u No)) (ap is_yes (ap (λ r. get_or r u No) line_is ∙ get_or-line s pred place a u lt))
      ∙ ap (λ b. is_yes (value_at s pred (pair_of place a u)) || b) (reached.yes u lt);
}
  where
    long : length line ≡ s.size
    long = ap length line_is ∙ length-line s pred place a

-- the anchors as a first and the rest
abbrev pub behind_first : List ℕ → List ℕ
behind_first anchors = take (length anchors - 1) (drop 1 anchors)

split-anchors : (anchors : List ℕ) → 1 ≤ length anchors → anchors ≡ get_or anchors 0 0 ∷ behind_first anchors
split-anchors anchors some = drop_more anchors 0 0 some ∙ ap (λ us. get_or anchors 0 0 ∷ us) (sym (take_rest anchors 1))

pub reached-rest : (s : StructureForm) (pred : ℕ) (place : Place) (anchors : List ℕ) (line later row : List K3)
    → 1 ≤ length anchors → line ≡ line_of s pred place (get_or anchors 0 0) → IsReached s pred place (behind_first anchors) later
    → row ≡ paired larger_of line later → IsReached s pred place anchors row
reached-rest s pred place anchors line later row some line_is reached is =
    subst (λ us. IsReached s pred place us row) (sym (split-anchors anchors some))
    (reached-more s pred place (get_or anchors 0 0) (behind_first anchors) line later row line_is reached is)

-- ---- unknown values

-- an unknown value shows where a row meets its negation
pub half-shows : (row : List K3) (u : ℕ) → u < length row → get_or row u No ≡ Half
    → Any (λ k. k ≢ No) (paired smaller_of row (map negation_of row))
half-shows row u lt half = (
  u,
  Half,
  omega (arith, lt, length-paired smaller_of row (map negation_of row) same),
  get_or_default (paired smaller_of row (map negation_of row)) u Half No
      (omega (arith, lt, length-paired smaller_of row (map negation_of row) same))
      ∙ get_or-paired smaller_of row (map negation_of row) u lt (omega (arith, lt, same))
      ∙ ap (λ k. smaller_of k (get_or (map negation_of row) u No)) half
      ∙ ap (smaller_of Half) (get_or-map negation_of row u No No lt ∙ ap negation_of half),
  λ no. let e : Half ≡ No = no in cc,
)
  where
    same : length row ≡ length (map negation_of row)
    same = sym (length-map row negation_of)

halves_more : (k : K3) (ks : List K3) → k ≢ Half → halves ks ≡ 0 → halves (k ∷ ks) ≡ 0
halves_more No ks ne none = none
halves_more Half ks ne none = absurd (ne refl)
halves_more Yes ks ne none = none

pub alone-known : (s : StructureForm) (pred u : ℕ) (row : List K3) → row ≡ unary_row s pred → u < s.size
    → ((w : ℕ) → w < length row → get_or row w No ≢ Half) → halves (value_at s pred (u ∷ []) ∷ []) ≡ 0
alone-known s pred u row is lt known =
    halves_more (value_at s pred (u ∷ [])) []
    (λ half. known u (omega (arith, lt, ap length is, length-unary_row s pred))
    (ap (λ r. get_or r u No) is
    ∙ get_or-map-range_with_len (λ w. value_at s pred (w ∷ [])) 0 s.size u u No lt (omega arith) ∙ half))
    refl

pairs-known : (s : StructureForm) (pred : ℕ) (place : Place) (a u : ℕ) (rest : List ℕ) (row : List K3)
    → row ≡ line_of s pred place a → u < s.size → ((w : ℕ) → w < length row → get_or row w No ≢ Half)
    → halves (map (λ b. value_at s pred (pair_of place b u)) rest) ≡ 0
    → halves (map (λ b. value_at s pred (pair_of place b u)) (a ∷ rest)) ≡ 0
pairs-known s pred place a u rest row is lt known later =
    halves_more (value_at s pred (pair_of place a u)) (map (λ b. value_at s pred (pair_of place b u)) rest)
    (λ half. known u (omega (arith, lt, ap length is, length-line s pred place a))
    (ap (λ r. get_or r u No) is ∙ get_or-line s pred place a u lt ∙ half))
    later

pub rest-known : (s : StructureForm) (pred : ℕ) (place : Place) (u : ℕ) (anchors : List ℕ) (row : List K3) → 1 ≤ length anchors
    → row ≡ line_of s pred place (get_or anchors 0 0) → u < s.size → ((w : ℕ) → w < length row → get_or row w No ≢ Half)
    → halves (map (λ b. value_at s pred (pair_of place b u)) (behind_first anchors)) ≡ 0
    → halves (map (λ b. value_at s pred (pair_of place b u)) anchors) ≡ 0
rest-known s pred place u anchors row some is lt known later =
    subst (λ us. halves (map (λ b. value_at s pred (pair_of place b u)) us) ≡ 0) (sym (split-anchors anchors some))
    (pairs-known s pred place (get_or anchors 0 0) u (behind_first anchors) row is lt known later)
