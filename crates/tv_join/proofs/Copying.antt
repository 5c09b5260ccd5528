-- Values are copied, predicate by predicate.
use Rattle.std.proofs.Common.{ℕ, ◌≡◌, ◌≢◌, ◌<◌, ◌≤◌, ◌+◌, ◌⊎◌, inl, inr, Bool, false, List, [], ◌∷◌, length}
use Rattle.std.proofs.Common.{get_or, refl, sym, ap, subst, ◌∙◌, arith, true≢false}
use Rattle.std.specs.Prelude.{slice_get}
use Rattle.std.proofs.lemmas.Bool.{cases_eq, cases_lt}
use Rattle.std.proofs.lemmas.List.{get_or_past}
use Rattle.tv_kleene.specs.declared.K3.{K3}
use Rattle.tv_kleene.specs.declared.K3.TheVariants.{No}
use Rattle.tv_structure_form.specs.TableForm.{HasEntry}
use Rattle.tv_structure_form.specs.StructureForm.{StructureForm, IsStructure, table_of, value_at, arities_of}
use Rattle.tv_structure_form.specs.StructureForm.{with_value, structure_of_no}
use Rattle.tv_struct.specs.StructureRows.{HasArity, unary_row}
use Rattle.tv_structure_form.specs.Laws.{WritesOneEntry, IsAllNo}
use Rattle.tv_structure_form.proofs.StructureLaws.{writes_one_entry, new_is_no}
use Rattle.tv_struct.proofs.Library.{get_or-unary_row, entry-arity}
use Rattle.tv_blur.specs.Classes.{ChangesOnly}
use Rattle.tv_join.specs.Keyed.{Counts, HasCopied, IsSkeleton}
use Rattle.tv_join.proofs.Entries.{entry_or_No}

-- a nullary predicate has the value that was put
pub copied-value : (s t new : StructureForm) (pred : ℕ) (k : K3) → IsStructure t → HasArity t pred 0
    → new ≡ with_value t pred [] k → k ≡ value_at s pred [] → (tuple : List ℕ) → HasEntry (table_of new) pred tuple
    → value_at s pred tuple ≡ value_at new pred tuple
copied-value s t new pred k is arity e value tuple has =
    let one : WritesOneEntry t pred [] k = writes_one_entry t pred [] k is (record { arity = arity; individuals = tt })
    in let arity_new : HasArity new pred 0 = ap (λ x. slice_get x pred) (ap arities_of e ∙ one.arities) ∙ arity
    in let read : value_at s pred [] ≡ value_at new pred [] = sym (ap (λ x. value_at x pred []) e ∙ one.written ∙ value)
    in at tuple (entry-arity new pred 0 tuple arity_new has) read
  where
    at : (tuple : List ℕ) → length tuple ≡ 0 → value_at s pred [] ≡ value_at new pred []
        → value_at s pred tuple ≡ value_at new pred tuple
    at [] none read = read
    at (u ∷ us) none read = absurd (omega arith)

-- and a unary one the row
pub copied-row : (s new : StructureForm) (pred : ℕ) → s.size ≡ new.size → HasArity new pred 1
    → unary_row new pred ≡ unary_row s pred → (tuple : List ℕ) → HasEntry (table_of new) pred tuple
    → value_at s pred tuple ≡ value_at new pred tuple
copied-row s new pred size arity row tuple has = at tuple (entry-arity new pred 1 tuple arity has) has
  where
    at : (tuple : List ℕ) → length tuple ≡ 1 → HasEntry (table_of new) pred tuple
        → value_at s pred tuple ≡ value_at new pred tuple
    at [] one has = absurd (omega arith)
    at (w ∷ u ∷ us) one has = absurd (omega arith)
    at (w ∷ []) one has =
        let in_new : w < new.size = has.individuals.0
        in sym (get_or-unary_row s pred w (omega (arith, in_new, size))) ∙ ap (λ r. get_or r w No) (sym row)
        ∙ get_or-unary_row new pred w in_new

-- a unary predicate that is No at each individual is No at all tuples
pub nowhere-none : (s : StructureForm) (pred : ℕ) → IsStructure s → HasArity s pred 1
    → ((u : ℕ) → u < s.size → value_at s pred (u ∷ []) ≡ No) → (tuple : List ℕ) → value_at s pred tuple ≡ No
nowhere-none s pred is arity none tuple = at (entry_or_No s is pred tuple)
  where
    one : (us : List ℕ) → length us ≡ 1 → HasEntry (table_of s) pred us → value_at s pred us ≡ No
    one [] e has = absurd (omega arith)
    one (w ∷ u ∷ us) e has = absurd (omega arith)
    one (w ∷ []) e has = none w has.individuals.0

    at : HasEntry (table_of s) pred tuple ⊎ (value_at s pred tuple ≡ No) → value_at s pred tuple ≡ No
    at (inl has) = one tuple (entry-arity s pred 1 tuple arity has) has
    at (inr no-value) = no-value

pub copied-none : (counted : List Bool) (s q : StructureForm) → q ≡ structure_of_no s.size (arities_of s)
    → HasCopied counted s 0 q
copied-none counted s q e =
    let none : IsAllNo (arities_of s) (structure_of_no s.size (arities_of s)) = new_is_no s.size (arities_of s)
    in subst (HasCopied counted s 0) (sym e) (record {
      size = refl;
      over = sym none.over;
      values = λ pred lt. absurd (omega arith);
      others = λ pred apart tuple. none.values pred tuple;
      summaries = none.summaries;
      unmarked = refl;
    })

pub copied-more : (counted : List Bool) (s : StructureForm) (n : ℕ) (q new : StructureForm) → HasCopied counted s n q
    → Counts counted n → ChangesOnly n q new
    → ((tuple : List ℕ) → value_at s n tuple ≡ value_at new n tuple) → HasCopied counted s (n + 1) new
copied-more counted s n q new have counts changes copied = record {
  size = have.size ∙ sym changes.size;
  over = have.over ∙ sym changes.over;
  values = λ pred lt does. at pred lt does (cases_eq pred n);
  others = λ pred apart tuple. changes.others pred tuple (differs pred apart) ∙ have.others pred (less pred apart) tuple;
  summaries = λ u. ap (λ flags. get_or flags u false) changes.summaries ∙ have.summaries u;
  unmarked = changes.fresh ∙ have.unmarked;
}
  where
    at : (pred : ℕ) → pred < n + 1 → Counts counted pred → (pred ≡ n) ⊎ (pred ≢ n) → (tuple : List ℕ)
        → value_at s pred tuple ≡ value_at new pred tuple
    at pred lt does (inl same) tuple = subst (λ q'. value_at s q' tuple ≡ value_at new q' tuple) (sym same) (copied tuple)
    at pred lt does (inr apart) tuple =
        have.values pred (omega arith) does tuple ∙ sym (changes.others pred tuple apart)

    differs : (pred : ℕ) → (¬ Counts counted pred) ⊎ (n + 1 ≤ pred) → pred ≢ n
    differs pred (inl not) e = not (subst (Counts counted) (sym e) counts)
    differs pred (inr past) e = omega (arith, past, e)

    less : (pred : ℕ) → (¬ Counts counted pred) ⊎ (n + 1 ≤ pred) → (¬ Counts counted pred) ⊎ (n ≤ pred)
    less pred (inl not) = inl not
    less pred (inr past) = inr (omega arith)

pub copied-skip : (counted : List Bool) (s : StructureForm) (n : ℕ) (q : StructureForm) → HasCopied counted s n q
    → ¬ Counts counted n → HasCopied counted s (n + 1) q
copied-skip counted s n q have doesnt = record {
  size = have.size;
  over = have.over;
  values = λ pred lt does. at pred lt does (cases_eq pred n);
  others = λ pred apart. have.others pred (less pred apart);
  summaries = have.summaries;
  unmarked = have.unmarked;
}
  where
    at : (pred : ℕ) → pred < n + 1 → Counts counted pred → (pred ≡ n) ⊎ (pred ≢ n) → (tuple : List ℕ)
        → value_at s pred tuple ≡ value_at q pred tuple
    at pred lt does (inl same) tuple = absurd (doesnt (subst (Counts counted) same does))
    at pred lt does (inr apart) tuple = have.values pred (omega arith) does tuple

    less : (pred : ℕ) → (¬ Counts counted pred) ⊎ (n + 1 ≤ pred) → (¬ Counts counted pred) ⊎ (n ≤ pred)
    less pred (inl not) = inl not
    less pred (inr past) = inr (omega arith)

pub copied-all : (counted : List Bool) (s : StructureForm) (n : ℕ) (q : StructureForm) → HasCopied counted s n q
    → IsStructure q → length counted ≤ n → IsSkeleton counted s q
copied-all counted s n q have is all = record {
  is = is;
  size = have.size;
  over = have.over;
  values = λ pred does. have.values pred (within pred does (cases_lt pred n)) does;
  others = λ pred apart. have.others pred (inl apart);
  summaries = have.summaries;
  unmarked = have.unmarked;
}
  where
    within : (pred : ℕ) → Counts counted pred → (pred < n) ⊎ (n ≤ pred) → pred < n
    within pred does (inl lt) = lt
    within pred does (inr past) =
        absurd (true≢false (sym does ∙ get_or_past counted pred false (omega (arith, all, past))))
