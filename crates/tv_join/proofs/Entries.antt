-- Entries of structures with the same individuals and predicates, and tuples that are none.
use Rattle.std.proofs.Common.{ℕ, ◌≡◌, ◌<◌, ◌≤◌, ◌⊎◌, inl, inr, List, [], ◌∷◌, length, Some, refl, sym, ap}
use Rattle.std.proofs.Common.{subst, ◌∙◌, arith}
use Rattle.std.specs.Prelude.{slice_get}
use Rattle.std.proofs.lemmas.Bool.{cases_lt}
use Rattle.tv_kleene.specs.declared.K3.TheVariants.{No}
use Rattle.tv_kleene.specs.Kleene.{join_of}
use Rattle.tv_structure_form.specs.TableForm.{HasEntry, AreIndividuals}
use Rattle.tv_structure_form.specs.StructureForm.{StructureForm, IsStructure, table_of, value_at, arities_of}
use Rattle.tv_structure_form.proofs.Library.{fits_or_No}
use Rattle.tv_structure_form.proofs.StructureLaws.{value_at-past}
use Rattle.tv_join.specs.Pairwise.{HasJoinedValues}

individuals_decided : (size : ℕ) (tuple : List ℕ) → AreIndividuals size tuple ⊎ (¬ AreIndividuals size tuple)
individuals_decided size [] = inl tt
individuals_decided size (u ∷ us) = at (cases_lt u size) (individuals_decided size us)
  where
    at : (u < size) ⊎ (size ≤ u) → AreIndividuals size us ⊎ (¬ AreIndividuals size us)
        → AreIndividuals size (u ∷ us) ⊎ (¬ AreIndividuals size (u ∷ us))
    at (inl lt) (inl all) = inl (lt, all)
    at (inl lt) (inr past) = inr (λ all. past all.1)
    at (inr past) other = inr (λ all. omega (arith, past, all.0))

-- where there is no entry there is No
pub entry_or_No : (s : StructureForm) → IsStructure s → (pred : ℕ) (tuple : List ℕ)
    → HasEntry (table_of s) pred tuple ⊎ (value_at s pred tuple ≡ No)
entry_or_No s is pred tuple = at (fits_or_No s pred tuple) (individuals_decided s.size tuple)
  where
    at : (slice_get (arities_of s) pred ≡ Some (length tuple)) ⊎ (value_at s pred tuple ≡ No)
        → AreIndividuals s.size tuple ⊎ (¬ AreIndividuals s.size tuple)
        → HasEntry (table_of s) pred tuple ⊎ (value_at s pred tuple ≡ No)
    at (inr no-value) other = inr no-value
    at (inl fits) (inl all) = inl (record { arity = fits; individuals = all })
    at (inl fits) (inr past) = inr (value_at-past s is pred tuple past)

-- both have the same entries
pub entry-like : (s t : StructureForm) (pred : ℕ) (tuple : List ℕ) → s.size ≡ t.size → arities_of s ≡ arities_of t
    → HasEntry (table_of s) pred tuple → HasEntry (table_of t) pred tuple
entry-like s t pred tuple size over has = record {
  arity = ap (λ x. slice_get x pred) (sym over) ∙ has.arity;
  individuals = subst (λ n. AreIndividuals n tuple) size has.individuals;
}

-- values that are equal at entries are equal
pub same-everywhere : (s t : StructureForm) → IsStructure s → IsStructure t → s.size ≡ t.size → arities_of s ≡ arities_of t
    → (pred : ℕ) → ((tuple : List ℕ) → HasEntry (table_of t) pred tuple → value_at s pred tuple ≡ value_at t pred tuple)
    → (tuple : List ℕ) → value_at s pred tuple ≡ value_at t pred tuple
same-everywhere s t is_s is_t size over pred same tuple = at (entry_or_No s is_s pred tuple) (entry_or_No t is_t pred tuple)
  where
    at : HasEntry (table_of s) pred tuple ⊎ (value_at s pred tuple ≡ No)
        → HasEntry (table_of t) pred tuple ⊎ (value_at t pred tuple ≡ No) → value_at s pred tuple ≡ value_at t pred tuple
    at (inl has) other = same tuple (entry-like s t pred tuple size over has)
    at (inr a) (inl has) = same tuple has
    at (inr a) (inr b) = a ∙ sym b

-- so are joined ones
pub joined-everywhere : (s t r : StructureForm) → IsStructure s → IsStructure t → IsStructure r → s.size ≡ t.size
    → arities_of s ≡ arities_of t → r.size ≡ s.size → arities_of r ≡ arities_of s → (pred : ℕ)
    → HasJoinedValues pred s t r → (tuple : List ℕ)
    → value_at r pred tuple ≡ join_of (value_at s pred tuple) (value_at t pred tuple)
joined-everywhere s t r is_s is_t is_r size over size_r over_r pred joined tuple =
    at (entry_or_No s is_s pred tuple) (entry_or_No t is_t pred tuple) (entry_or_No r is_r pred tuple)
  where
    at : HasEntry (table_of s) pred tuple ⊎ (value_at s pred tuple ≡ No)
        → HasEntry (table_of t) pred tuple ⊎ (value_at t pred tuple ≡ No)
        → HasEntry (table_of r) pred tuple ⊎ (value_at r pred tuple ≡ No)
        → value_at r pred tuple ≡ join_of (value_at s pred tuple) (value_at t pred tuple)
    at (inl has) b c = joined tuple (entry-like s r pred tuple (sym size_r) (sym over_r) has)
    at (inr a) (inl has) c = joined tuple (entry-like t r pred tuple (sym (size_r ∙ size)) (sym (over_r ∙ over)) has)
    at (inr a) (inr b) (inl has) = joined tuple has
    at (inr a) (inr b) (inr c) = rw (a, b, c) refl
