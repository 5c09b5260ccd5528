-- Structures without unknown values.
use Rattle.std.proofs.Common.{ℕ, ◌≡◌, ◌≢◌, ◌<◌, ◌≤◌, ◌⊎◌, ◌↔◌, inl, inr, Bool, true, false, IsTrue, List, []}
use Rattle.std.proofs.Common.{◌∷◌, length, map, get_or, Some, refl, sym, ap, subst, ◌∙◌, arith}
use Rattle.std.specs.Prelude.{Any, not, slice_get, if◌then◌else◌}
use Rattle.std.specs.List.{range_with_len}
use Rattle.std.proofs.lemmas.Bool.{cases_lt, false≢true, false_from_ne_true}
use Rattle.std.proofs.lemmas.List.{get_or_default, length-map, get_or-map}
use Rattle.std.proofs.lemmas.List.FromFn.{length-map-range_with_len, get_or-map-range_with_len}
use Rattle.std.proofs.lemmas.Option.{slice_get_within, same_Some}
use Rattle.tv_kleene.specs.declared.K3.{K3}
use Rattle.tv_kleene.specs.declared.K3.TheVariants.{No, Half, Yes}
use Rattle.tv_kleene.specs.Kleene.{smaller_of, negation_of}
use Rattle.tv_row.specs.Bits.{paired}
use Rattle.tv_row.proofs.WordOps.{length-paired, get_or-paired}
use Rattle.tv_structure_form.specs.StructureForm.{StructureForm, IsStructure, arities_of, value_at}
use Rattle.tv_structure_form.specs.StructureForm.{summary_at}
use Rattle.tv_struct.specs.StructureRows.{HasArity, unary_row, row_at, summary_row}
use Rattle.tv_structure_form.specs.TableForm.{AreIndividuals}
use Rattle.tv_structure_form.proofs.Library.{fits_or_No}
use Rattle.tv_structure_form.proofs.StructureLaws.{value_at-past}
use Rattle.tv_two_valued.specs.TwoValued.{IsTwoValued}
use Rattle.tv_two_valued.proofs.Heaps.{individuals-or}
use Rattle.tv_two_valued.proofs.Tuples.{no-members, one-member, two-members}

no-half : (k : K3) → k ≡ No → k ≢ Half
no-half k e f = cc

-- ---- rows

abbrev lesser : K3 → K3
lesser x = smaller_of x (negation_of x)

lesser-half : (x : K3) → lesser x ≢ No → x ≡ Half
lesser-half No ne = absurd (ne refl)
lesser-half Half ne = refl
lesser-half Yes ne = absurd (ne refl)

half-lesser : (x : K3) → x ≡ Half → lesser x ≢ No
half-lesser No e f = absurd (cc e)
half-lesser Half e f = absurd (cc f)
half-lesser Yes e f = absurd (cc e)

lesser-at : (row : List K3) (k : ℕ) → k < length row → get_or (paired smaller_of row (map negation_of row)) k No ≡ lesser (get_or row k No)
lesser-at row k lt =
    get_or-paired smaller_of row (map negation_of row) k lt (rw (length-map row negation_of) lt)
    ∙ ap (smaller_of (get_or row k No)) (get_or-map negation_of row k No No lt)

lesser-length : (row : List K3) → length (paired smaller_of row (map negation_of row)) ≡ length row
lesser-length row = length-paired smaller_of row (map negation_of row) (sym (length-map row negation_of))

pub halves-found : (row : List K3) → Any (λ x. x ≢ No) (paired smaller_of row (map negation_of row)) ↔ Any (λ x. x ≡ Half) row
halves-found row = (
  λ any.
      let pairs : List K3 = paired smaller_of row (map negation_of row)
      in let lt : any.0 < length row = rw (← lesser-length row) any.2
      in let at : get_or pairs any.0 No ≡ any.1 = get_or_default pairs any.0 No any.1 any.2 ∙ any.3
      in let half : get_or row any.0 No ≡ Half
      = lesser-half (get_or row any.0 No) (λ e. any.4 (sym at ∙ lesser-at row any.0 lt ∙ e))
      in (any.0, Half, lt, get_or_default row any.0 Half No lt ∙ half, refl),
  λ any.
      let pairs : List K3 = paired smaller_of row (map negation_of row)
      in let within : any.0 < length pairs = rw (lesser-length row) any.2
      in let half : get_or row any.0 No ≡ Half = get_or_default row any.0 No any.1 any.2 ∙ any.3 ∙ any.4
      in (
        any.0,
        get_or pairs any.0 No,
        within,
        get_or_default pairs any.0 (get_or pairs any.0 No) No within,
        λ e. half-lesser (get_or row any.0 No) half (sym (lesser-at row any.0 any.2) ∙ e),
      ),
)

-- a row of the values of f has an unknown one exactly where f gives one
any-at : (P : K3 → Type 0) (n : ℕ) (f : ℕ → K3) (u : ℕ) → u < n → P (f u) → Any P (map f (range_with_len 0 n))
any-at P n f u lt holds =
    (u, f u, rw (length-map-range_with_len f 0 n) lt, get_or-map-range_with_len f 0 n u u (f u) lt (omega arith), holds)

at-any : (P : K3 → Type 0) (n : ℕ) (f : ℕ → K3) → Any P (map f (range_with_len 0 n)) → (u : ℕ) × (u < n) × P (f u)
at-any P n f any =
    let lt : any.0 < n = rw (← length-map-range_with_len f 0 n) any.2
    in (any.0, lt, subst P (sym (sym (get_or-map-range_with_len f 0 n any.0 any.0 any.1 lt (omega arith)) ∙ any.3)) any.4)

-- ---- the values of a predicate

-- at the tuples that have an entry
abbrev pub IsDefiniteIn : StructureForm → (pred arity : ℕ) → Type 0
IsDefiniteIn s q arity = (tuple : List ℕ) → length tuple ≡ arity → AreIndividuals s.size tuple → value_at s q tuple ≢ Half

abbrev pub IsDefinite : StructureForm → (pred : ℕ) → Type 0
IsDefinite s q = (tuple : List ℕ) → value_at s q tuple ≢ Half

pub definite-everywhere : (s : StructureForm) (q arity : ℕ) → IsStructure s → HasArity s q arity → IsDefiniteIn s q arity → IsDefinite s q
definite-everywhere s q arity is has inside tuple = at (fits_or_No s q tuple) (individuals-or s.size tuple)
  where
    at : (slice_get (arities_of s) q ≡ Some (length tuple)) ⊎ (value_at s q tuple ≡ No) → AreIndividuals s.size tuple ⊎ (AreIndividuals s.size tuple → ⊥)
        → value_at s q tuple ≢ Half
    at (inr none) others = no-half (value_at s q tuple) none
    at (inl fits) (inr out) = no-half (value_at s q tuple) (value_at-past s is q tuple out)
    at (inl fits) (inl all) = inside tuple (same_Some (length tuple) arity (sym fits ∙ has)) all

-- the first rows have no unknown value
abbrev pub RowsDefinite : StructureForm → (pred count : ℕ) → Type 0
RowsDefinite s q count = (u : ℕ) → u < count → ¬ Any (λ x. x ≡ Half) (row_at s q u)

module _ (s : StructureForm) (q : ℕ) (is : IsStructure s) where
  pub nullary-definite : HasArity s q 0 → (value_at s q [] ≢ Half) ↔ IsDefinite s q
  nullary-definite has = (
    λ ne. definite-everywhere s q 0 is has (λ tuple long all. no-members (λ us. value_at s q us ≢ Half) ne tuple long),
    λ definite. definite [],
  )

  pub unary-definite : HasArity s q 1 → (¬ Any (λ x. x ≡ Half) (unary_row s q)) ↔ IsDefinite s q
  unary-definite has = (
    λ none. definite-everywhere s q 1 is has (λ tuple long. one-member (λ us. AreIndividuals s.size us → value_at s q us ≢ Half)
        (λ u all half. none (any-at (λ x. x ≡ Half) s.size (λ x. value_at s q (x ∷ [])) u all.0 half)) tuple long),
    λ definite any.
        let found = at-any (λ x. x ≡ Half) s.size (λ x. value_at s q (x ∷ [])) any
        in definite (found.0 ∷ []) found.2,
  )

  pub pairs-definite : HasArity s q 2 → (count : ℕ) → s.size ≤ count → RowsDefinite s q count → IsDefinite s q
  pairs-definite has count whole rows =
      definite-everywhere s q 2 is has (λ tuple long. two-members (λ us. AreIndividuals s.size us → value_at s q us ≢ Half)
      (λ u w all half. rows u (omega (arith, whole, all.0)) (any-at (λ x. x ≡ Half) s.size (λ x. value_at s q (u ∷ x ∷ [])) w all.1.0 half))
      tuple long)

  pub pair-unknown : (u : ℕ) → Any (λ x. x ≡ Half) (row_at s q u) → ¬ IsDefinite s q
  pair-unknown u any definite =
      let found = at-any (λ x. x ≡ Half) s.size (λ x. value_at s q (u ∷ x ∷ [])) any
      in definite (u ∷ found.0 ∷ []) found.2

-- what is asked of a test that is turned
pub turned : (b : Bool) (P Q : Type 0) → IsTrue b ↔ P → (¬ P) ↔ Q → IsTrue (not b) ↔ Q
turned true P Q test both = (λ e. absurd (false≢true e), λ q. absurd (both.1 q (test.0 refl)))
turned false P Q test both = (λ e. both.0 (λ p. false≢true (test.1 p)), λ q. refl)

-- ---- all predicates

flag-no : (b : Bool) → (if b then Half else No) ≢ No → b ≡ true
flag-no true ne = refl
flag-no false ne = absurd (ne refl)

flag-half : (b : Bool) → b ≡ true → (if b then Half else No) ≢ No
flag-half true e f = absurd (cc f)
flag-half false e f = absurd (cc e)

pub summaries-found : (s : StructureForm) → IsTwoValued s → ¬ Any (λ x. x ≢ No) (summary_row s)
summaries-found s two any =
    let found = at-any (λ x. x ≢ No) s.size (λ u. if summary_at s u then Half else No) any
    in false≢true (sym (two.summaries found.0 found.1) ∙ flag-no (summary_at s found.0) found.2)

pub two-valued : (s : StructureForm) (count : ℕ) → length (arities_of s) ≤ count → (¬ Any (λ x. x ≢ No) (summary_row s))
    → ((q : ℕ) → q < count → IsDefinite s q) → IsTwoValued s
two-valued s count whole none each = record {
  values = λ q tuple. at q tuple (cases_lt q count);
  summaries = λ u lt. false_from_ne_true (summary_at s u) (λ e. none (any-at (λ x. x ≢ No) s.size (λ w. if summary_at s w then Half else No) u lt
      (flag-half (summary_at s u) e)));
}
  where
    past : (q : ℕ) (tuple : List ℕ) → count ≤ q → (slice_get (arities_of s) q ≡ Some (length tuple)) ⊎ (value_at s q tuple ≡ No) → value_at s q tuple ≢ Half
    past q tuple far (inr none_there) = no-half (value_at s q tuple) none_there
    past q tuple far (inl fits) = absurd (omega (arith, whole, far, slice_get_within (arities_of s) q (length tuple) fits))

    at : (q : ℕ) (tuple : List ℕ) → (q < count) ⊎ (count ≤ q) → value_at s q tuple ≢ Half
    at q tuple (inl lt) = each q lt tuple
    at q tuple (inr far) = past q tuple far (fits_or_No s q tuple)
