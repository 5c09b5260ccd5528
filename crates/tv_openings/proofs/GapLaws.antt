-- Where the values of a predicate are known.
use Rattle.std.proofs.Common.{ℕ, ◌≡◌, ◌≢◌, ◌<◌, ◌≤◌, ◌⊎◌, List, [], ◌∷◌, length, Some, inl, inr, arith}
use Rattle.std.specs.Prelude.{slice_get}
use Rattle.std.proofs.lemmas.Bool.{cases_lt}
use Rattle.std.proofs.lemmas.Option.{slice_get_within}
use Rattle.tv_kleene.specs.declared.K3.{K3}
use Rattle.tv_kleene.specs.declared.K3.TheVariants.{No, Half}
use Rattle.tv_structure_form.specs.StructureForm.{StructureForm, IsStructure, arities_of, value_at}
use Rattle.tv_structure_form.specs.TableForm.{AreIndividuals}
use Rattle.tv_structure_form.proofs.Library.{fits_or_No}
use Rattle.tv_struct.specs.StructureRows.{HasArity}
use Rattle.tv_two_valued.proofs.Definite.{IsDefinite, definite-everywhere}
use Rattle.tv_two_valued.proofs.Tuples.{one-member, two-members}

pub unary_known : (s : StructureForm) (q : ℕ) → IsStructure s → HasArity s q 1
    → ((u : ℕ) → u < s.size → value_at s q (u ∷ []) ≢ Half) → IsDefinite s q
unary_known s q is has known =
    definite-everywhere s q 1 is has (λ tuple long.
    one-member (λ us. AreIndividuals s.size us → value_at s q us ≢ Half) (λ u all. known u all.0) tuple long)

pub pairs_known : (s : StructureForm) (q : ℕ) → IsStructure s → HasArity s q 2
    → ((u : ℕ) → u < s.size → (w : ℕ) → w < s.size → value_at s q (u ∷ w ∷ []) ≢ Half) → IsDefinite s q
pairs_known s q is has known =
    definite-everywhere s q 2 is has (λ tuple long.
    two-members (λ us. AreIndividuals s.size us → value_at s q us ≢ Half)
    (λ u w all. known u all.0 w all.1.0) tuple long)

isnt_half : (k : K3) → k ≡ No → k ≢ Half
isnt_half k is half = cc

pub all_known : (s : StructureForm) (count : ℕ) → length (arities_of s) ≤ count
    → ((q : ℕ) → q < count → IsDefinite s q)
    → (q : ℕ) (tuple : List ℕ) → value_at s q tuple ≢ Half
all_known s count whole each q tuple = at (cases_lt q count)
  where
    past : count ≤ q → (slice_get (arities_of s) q ≡ Some (length tuple)) ⊎ (value_at s q tuple ≡ No)
        → value_at s q tuple ≢ Half
    past far (inr none) = isnt_half (value_at s q tuple) none
    past far (inl fits) = absurd (omega (arith, whole, far, slice_get_within (arities_of s) q (length tuple) fits))

    at : (q < count) ⊎ (count ≤ q) → value_at s q tuple ≢ Half
    at (inl lt) = each q lt tuple
    at (inr far) = past far (fits_or_No s q tuple)
