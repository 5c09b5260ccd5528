-- The heap of a structure: its individuals, what holds in it, and that it is one of the program.
use Rattle.std.proofs.Common.{ℕ, zero, suc, ◌≡◌, ◌<◌, ◌≤◌, ◌+◌, ◌⊎◌, inl, inr, true, List, [], ◌∷◌}
use Rattle.std.proofs.Common.{length, map, Option, Some, None, refl, sym, ap, ◌∙◌, subst, arith}
use Rattle.std.specs.Prelude.{Contains, slice_get, unwrap_or}
use Rattle.std.specs.List.{range_with_len}
use Rattle.std.proofs.lemmas.Bool.{cases_lt}
use Rattle.std.proofs.lemmas.List.{length-map}
use Rattle.tv_lemmas.proofs.Lists.{range_differs}
use Rattle.tv_kleene.specs.declared.K3.{K3}
use Rattle.tv_kleene.specs.declared.K3.TheVariants.{No, Half, Yes}
use Rattle.tv_kleene.specs.Kleene.{is_yes}
use Rattle.tv_kleene.proofs.Lattice.{no-yes}
use Rattle.tv_model.specs.Heap.{Holds, IsTuple, extent}
use Rattle.tv_model.specs.Program.{ProgramForm, PredForm}
use Rattle.tv_model.specs.Rules.{IsHeap}
use Rattle.tv_model.proofs.Lists.{Contains-none, Contains-filter, Contains-filter_back, All-from_contains}
use Rattle.tv_structure_form.specs.StructureForm.{StructureForm, IsStructure, arities_of, value_at}
use Rattle.tv_structure_form.specs.TableForm.{AreIndividuals}
use Rattle.tv_structure_form.proofs.Library.{Contains-range, below-range, All-individuals, fits_or_No}
use Rattle.tv_structure_form.proofs.StructureLaws.{value_at-past}
use Rattle.tv_two_valued.specs.TwoValued.{heap_of, lists_of, yes_tuples, extents_from}
use Rattle.tv_two_valued.specs.Laws.{IsToldBy, IsOfProgram, HeapsAreTold}
use Rattle.tv_two_valued.proofs.Tuples.{list-fits, list-found}

-- ---- the extents, by number

extents-some : (s : StructureForm) (p : ℕ) (arities : List ℕ) (q arity : ℕ) → slice_get arities q ≡ Some arity
    → slice_get (extents_from s p arities) q ≡ Some (yes_tuples s (p + q) arity)
extents-some s p [] q arity is = absurd (none is)
  where
    none : None ≡ Some arity → ⊥
    none e = cc
extents-some s p (a ∷ arities) zero arity is =
    ap Some (ap (yes_tuples s p) (same a arity is)) ∙ ap (λ n. Some (yes_tuples s n arity)) (whole p)
  where
    same : (x y : ℕ) → Some x ≡ Some y → x ≡ y
    same x y e = cc

    whole : (n : ℕ) → n ≡ n + 0
    whole n = omega arith
extents-some s p (a ∷ arities) (suc q) arity is =
    extents-some s (suc p) arities q arity is ∙ ap (λ n. Some (yes_tuples s n arity)) (next p q)
  where
    next : (p q : ℕ) → suc p + q ≡ p + suc q
    next p q = omega arith

extents-none : (s : StructureForm) (p : ℕ) (arities : List ℕ) (q : ℕ) → slice_get arities q ≡ None → slice_get (extents_from s p arities) q ≡ None
extents-none s p [] q is = refl
extents-none s p (a ∷ arities) zero is = absurd (some is)
  where
    some : Some a ≡ None → ⊥
    some e = cc
extents-none s p (a ∷ arities) (suc q) is = extents-none s (suc p) arities q is

length-extents : (s : StructureForm) (p : ℕ) (arities : List ℕ) → length (extents_from s p arities) ≡ length arities
length-extents s p [] = refl
length-extents s p (a ∷ arities) = ap suc (length-extents s (suc p) arities)

pub extent-of : (s : StructureForm) (q arity : ℕ) → slice_get (arities_of s) q ≡ Some arity → extent (heap_of s) q ≡ yes_tuples s q arity
extent-of s q arity is = ap (λ o. unwrap_or o []) (extents-some s 0 (arities_of s) q arity is) ∙ ap (λ n. yes_tuples s n arity) (from_zero q)
  where
    from_zero : (n : ℕ) → 0 + n ≡ n
    from_zero n = omega arith

extent-past : (s : StructureForm) (q : ℕ) → slice_get (arities_of s) q ≡ None → extent (heap_of s) q ≡ []
extent-past s q is = ap (λ o. unwrap_or o []) (extents-none s 0 (arities_of s) q is)

-- ---- what holds

yes-is : (k : K3) → is_yes k ≡ true → k ≡ Yes
yes-is No e = absurd cc
yes-is Half e = absurd cc
yes-is Yes e = refl

pub individuals-or : (n : ℕ) (tuple : List ℕ) → AreIndividuals n tuple ⊎ (AreIndividuals n tuple → ⊥)
individuals-or n [] = inl tt
individuals-or n (u ∷ us) = at (cases_lt u n) (individuals-or n us)
  where
    at : (u < n) ⊎ (n ≤ u) → AreIndividuals n us ⊎ (AreIndividuals n us → ⊥) → AreIndividuals n (u ∷ us) ⊎ (AreIndividuals n (u ∷ us) → ⊥)
    at (inl lt) (inl all) = inl (lt, all)
    at (inl lt) (inr out) = inr (λ all. out all.1)
    at (inr le) others = inr (λ all. let lt = all.0 in absurd (omega (arith, le, lt)))

holds-yes : (s : StructureForm) (q : ℕ) (tuple : List ℕ) → Holds (heap_of s) q tuple → value_at s q tuple ≡ Yes
holds-yes s q tuple held = at (slice_get (arities_of s) q) refl
  where
    at : (o : Option ℕ) → slice_get (arities_of s) q ≡ o → value_at s q tuple ≡ Yes
    at None is = absurd (Contains-none tuple (subst (λ ts. Contains ts tuple) (extent-past s q is) held))
    at (Some arity) is =
        let among : Contains (yes_tuples s q arity) tuple = subst (λ ts. Contains ts tuple) (extent-of s q arity is) held
        in yes-is (value_at s q tuple)
        (Contains-filter_back (λ t. is_yes (value_at s q t)) (lists_of (range_with_len 0 s.size) arity) tuple among).1

yes-holds : (s : StructureForm) → IsStructure s → (q : ℕ) (tuple : List ℕ) → value_at s q tuple ≡ Yes → Holds (heap_of s) q tuple
yes-holds s is q tuple true_there = at (fits_or_No s q tuple) (individuals-or s.size tuple)
  where
    at : (slice_get (arities_of s) q ≡ Some (length tuple)) ⊎ (value_at s q tuple ≡ No) → AreIndividuals s.size tuple ⊎ (AreIndividuals s.size tuple → ⊥)
        → Holds (heap_of s) q tuple
    at (inr none) others = absurd (no-yes (value_at s q tuple) none true_there)
    at (inl fits) (inr out) = absurd (no-yes (value_at s q tuple) (value_at-past s is q tuple out) true_there)
    at (inl fits) (inl all) =
        let listed : Contains (lists_of (range_with_len 0 s.size) (length tuple)) tuple
        = list-found (range_with_len 0 s.size) (length tuple) tuple refl (All-individuals s.size tuple all)
        in let among : Contains (yes_tuples s q (length tuple)) tuple
        = Contains-filter (λ t. is_yes (value_at s q t)) (lists_of (range_with_len 0 s.size) (length tuple)) tuple listed (ap is_yes true_there)
        in subst (λ ts. Contains ts tuple) (sym (extent-of s q (length tuple) fits)) among

pub heap-told : (s : StructureForm) → IsStructure s → IsToldBy s
heap-told s is = record {
  individuals = λ u. (below-range s.size u, Contains-range s.size u);
  holds = λ q tuple. (holds-yes s q tuple, yes-holds s is q tuple);
}

-- ---- a heap of the program

arity-found : (preds : List PredForm) (q : ℕ) (d : PredForm) → slice_get preds q ≡ Some d → slice_get (map (λ p. p.arity) preds) q ≡ Some d.arity
arity-found [] q d is = absurd (none is)
  where
    none : None ≡ Some d → ⊥
    none e = cc
arity-found (p ∷ preds) zero d is = ap (λ o. at o) is
  where
    at : Option PredForm → Option ℕ
    at None = None
    at (Some p) = Some p.arity
arity-found (p ∷ preds) (suc q) d is = arity-found preds q d is

pub heap-of_program : (p : ProgramForm) (s : StructureForm) → IsStructure s → IsOfProgram p s → IsHeap p (heap_of s)
heap-of_program p s is over = record {
  individuals_differ = range_differs s.size;
  one_extent_each = length-extents s 0 (arities_of s) ∙ ap length over.0 ∙ length-map p.preds (λ d. d.arity);
  tuples_fit = λ q d found.
      let known : slice_get (arities_of s) q ≡ Some d.arity = ap (λ ns. slice_get ns q) over.0 ∙ arity-found p.preds q d found
      in All-from_contains (IsTuple (heap_of s) d.arity) (extent (heap_of s) q) (λ tuple at.
      let among : Contains (yes_tuples s q d.arity) tuple = subst (λ ts. Contains ts tuple) (extent-of s q d.arity known) at
      in list-fits (range_with_len 0 s.size) d.arity tuple
      (Contains-filter_back (λ t. is_yes (value_at s q t)) (lists_of (range_with_len 0 s.size) d.arity) tuple among).0);
  no_mark = over.1;
}

pub heaps_are_told : HeapsAreTold
heaps_are_told = record { told = heap-told; heaps = heap-of_program }
