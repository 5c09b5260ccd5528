-- Lemmas for the crates above: how entries read.
use Rattle.std.proofs.Common.{ℕ, ◌≡◌, ◌≢◌, ◌<◌, ◌≤◌, ◌⊎◌, inl, inr, List, length, get_or, Some, refl, sym, ap}
use Rattle.std.proofs.Common.{◌∙◌, [], None, ⊎_elim, arith, ne_eqb}
use Rattle.std.specs.Prelude.{All, Contains, slice_get}
use Rattle.std.specs.List.{range_with_len}
use Rattle.std.proofs.lemmas.Bool.{cases_eq, cases_lt}
use Rattle.std.proofs.lemmas.List.{length-map, get_or-map, get_or_past}
use Rattle.std.proofs.lemmas.List.Elements.{recursion_from_All, All-from_recursion}
use Rattle.std.proofs.lemmas.List.FromFn.{length-range_with_len, get_or-range_with_len}
use Rattle.std.proofs.lemmas.Option.{slice_get-get_or}
pub use Rattle.tv_lemmas.proofs.Lists.{in_range as Contains-range}
use Rattle.tv_kleene.specs.declared.K3.TheVariants.{No}
use Rattle.tv_structure_form.specs.TableForm.{PlaneForm, AreIndividuals, no_plane, value_in}
use Rattle.tv_structure_form.specs.StructureForm.{StructureForm, arities_of, unmarked, value_at}
use Rattle.tv_structure_form.proofs.StructureLaws.{value_in-no_plane}

-- ---- the individuals of a structure are the numbers below its size

pub below-range : (n u : ℕ) → Contains (range_with_len 0 n) u → u < n
below-range n u (k, lt, at) =
    let within : k < n = rw (← length-range_with_len 0 n) lt
    in let same : u ≡ k = sym at ∙ get_or-range_with_len 0 n k u within ∙ omega arith
    in omega arith

pub AreIndividuals-range : (n : ℕ) (tuple : List ℕ) → All (Contains (range_with_len 0 n)) tuple → AreIndividuals n tuple
AreIndividuals-range n tuple all = recursion_from_All (λ u. u < n) tuple (λ k d lt. below-range n _ (all k d lt))

pub All-individuals : (n : ℕ) (tuple : List ℕ) → AreIndividuals n tuple → All (Contains (range_with_len 0 n)) tuple
All-individuals n tuple within k d lt = Contains-range n (get_or tuple k d) (All-from_recursion (λ u. u < n) tuple within k d lt)

-- ---- how entries read

-- at a tuple of another length than the predicate's arity there is No
pub fits_or_No : (s : StructureForm) (pred : ℕ) (tuple : List ℕ)
    → (slice_get (arities_of s) pred ≡ Some (length tuple)) ⊎ (value_at s pred tuple ≡ No)
fits_or_No s pred tuple = at (cases_lt pred (length s.planes))
  where
    plane : PlaneForm
    plane = get_or s.planes pred no_plane

    at : (pred < length s.planes) ⊎ (length s.planes ≤ pred)
        → (slice_get (arities_of s) pred ≡ Some (length tuple)) ⊎ (value_at s pred tuple ≡ No)
    at (inr past) = inr (ap (λ p. value_in p tuple) (get_or_past s.planes pred no_plane past) ∙ value_in-no_plane tuple)
    at (inl lt) =
        let known : slice_get (arities_of s) pred ≡ Some plane.arity
        = slice_get-get_or (arities_of s) pred 0 (rw (length-map s.planes (λ p. p.arity)) lt)
        ∙ ap Some (get_or-map (λ p. p.arity) s.planes pred no_plane 0 lt)
        in fits known (cases_eq (length tuple) plane.arity)
      where
        fits : slice_get (arities_of s) pred ≡ Some plane.arity → (length tuple ≡ plane.arity) ⊎ (length tuple ≢ plane.arity)
            → (slice_get (arities_of s) pred ≡ Some (length tuple)) ⊎ (value_at s pred tuple ≡ No)
        fits known (inl e) = inl (known ∙ ap Some (sym e))
        fits known (inr ne) = inr (rw (ne_eqb (length tuple) plane.arity ne) refl)

pub value_at-misfit : (s : StructureForm) (pred : ℕ) (tuple : List ℕ)
    → ¬ (slice_get (arities_of s) pred ≡ Some (length tuple)) → value_at s pred tuple ≡ No
value_at-misfit s pred tuple misfit = ⊎_elim (λ fits. absurd (misfit fits)) (λ none. none) (fits_or_No s pred tuple)

-- of a predicate that the structure hasn't there is No
pub value_at-past : (s : StructureForm) (pred : ℕ) (tuple : List ℕ) → length (arities_of s) ≤ pred → value_at s pred tuple ≡ No
value_at-past s pred tuple past =
    let behind : length s.planes ≤ pred = omega (arith, past, length-map s.planes (λ (p : PlaneForm). p.arity))
    in ap (λ p. value_in p tuple) (get_or_past s.planes pred no_plane behind) ∙ value_in-no_plane tuple

-- ---- marks

pub unmarked-same : (s : StructureForm) → s.fresh ≡ None → unmarked s ≡ s
unmarked-same s plain = rw (sym plain) refl
