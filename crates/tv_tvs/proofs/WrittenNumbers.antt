-- Numbers of names, and of individuals by their names.
use Rattle.std.proofs.Common.{ℕ, zero, suc, ◌≡◌, ◌<◌, ◌≤◌, ◌^◌, true, false, List, [], ◌∷◌, length, drop}
use Rattle.std.proofs.Common.{get_or, Some, None, refl, sym, ap, ◌∙◌, arith, ltb}
use Rattle.std.specs.List.{position_or_len}
use Rattle.std.specs.Str.{bytes_eq}
use Rattle.std.proofs.lemmas.Bool.{cond-true, lt-ltb}
use Rattle.std.proofs.lemmas.Fmt.{decimal_injective}
use Rattle.std.proofs.lemmas.List.FromFn.{length-map-range_with_len, get_or-map-range_with_len}
use Rattle.std.proofs.lemmas.Slice.Eq.{bytes_eq-Decides}
use Rattle.tv_lemmas.proofs.Texts.{texts_differ}
use Rattle.tv_tvs.specs.Canonical.{individual, individuals}
use Rattle.tv_tree.specs.Names.{is_among, number_of}

stands_first : (names : List (List ℕ)) (n : ℕ) (name : List ℕ) → n < length names → get_or names n [] ≡ name
    → ((k : ℕ) → k < n → get_or names k [] ≡ name → ⊥) → position_or_len (bytes_eq name) names ≡ n
stands_first [] n name lt at before = absurd (omega arith)
stands_first (x ∷ xs) zero name lt at before =
    let same : bytes_eq name x ≡ true = (bytes_eq-Decides name x).1 (sym at)
    in rw same refl
stands_first (x ∷ xs) (suc n) name lt at before =
    let differ : bytes_eq name x ≡ false = texts_differ name x (λ e. before 0 (omega arith) (sym e))
    in let later : position_or_len (bytes_eq name) xs ≡ n = stands_first xs n name (omega arith) at (λ k small e. before (suc k) (omega (arith, small)) e)
    in rw (differ, later) (omega arith)

-- the first place of a name
pub number_is : (names : List (List ℕ)) (n : ℕ) (name : List ℕ) → n < length names → get_or names n [] ≡ name
    → ((k : ℕ) → k < n → get_or names k [] ≡ name → ⊥) → number_of names name ≡ Some n
number_is names n name lt at before =
    let first : position_or_len (bytes_eq name) names ≡ n = stands_first names n name lt at before
    in rw first (cond-true (ltb n (length names)) (Some n) None (lt-ltb n (length names) lt))

pub individual_injective : (u w : ℕ) → u < 2 ^ 64 → w < 2 ^ 64 → individual u ≡ individual w → u ≡ w
individual_injective u w small_u small_w e = decimal_injective u w small_u small_w (ap (drop 1) e)

-- an individual has the number that its name says
pub number_of_individual : (size u : ℕ) → u < size → size ≤ 256 → number_of (individuals size) (individual u) ≡ Some u
number_of_individual size u lt small =
    number_is (individuals size) u (individual u) (rw (length-map-range_with_len individual 0 size) lt) (at u lt)
    (λ k less e.
    let same : k ≡ u = individual_injective k u (omega (arith, lt, small, less)) (omega (arith, lt, small)) (sym (at k (omega (arith, lt, less))) ∙ e)
    in omega (arith, same, less))
  where
    at : (k : ℕ) → k < size → get_or (individuals size) k [] ≡ individual k
    at k within = get_or-map-range_with_len individual 0 size k k [] within (omega arith)

pub not_among : (names : List (List ℕ)) (name : List ℕ) → ((k : ℕ) → k < length names → get_or names k [] ≡ name → ⊥) → is_among names name ≡ false
not_among [] name apart = refl
not_among (x ∷ xs) name apart =
    rw (texts_differ name x (λ e. apart 0 (omega arith) (sym e)), not_among xs name (λ k lt e. apart (suc k) (omega (arith, lt)) e)) refl
