-- Structures are joined, predicate by predicate and row by row.
use Rattle.std.proofs.Common.{ℕ, ◌≡◌, ◌≢◌, ◌<◌, ◌≤◌, ◌+◌, ◌⊎◌, inl, inr, Bool, false, ◌||◌, List, [], ◌∷◌}
use Rattle.std.proofs.Common.{length, get_or, None, refl, sym, ap, subst, ◌∙◌, arith}
use Rattle.std.specs.Prelude.{slice_get}
use Rattle.std.proofs.lemmas.Bool.{cases_eq, cases_lt}
use Rattle.tv_kleene.specs.declared.K3.{K3}
use Rattle.tv_kleene.specs.declared.K3.TheVariants.{No}
use Rattle.tv_kleene.specs.Kleene.{join_of}
use Rattle.tv_row.specs.Bits.{paired}
use Rattle.tv_row.proofs.WordOps.{get_or-paired, length-paired}
use Rattle.tv_structure_form.specs.TableForm.{HasEntry, row_of}
use Rattle.tv_structure_form.specs.StructureForm.{StructureForm, IsStructure, table_of, value_at, summary_at}
use Rattle.tv_structure_form.specs.StructureForm.{arities_of, with_value, with_summary}
use Rattle.tv_struct.specs.StructureRows.{HasArity, unary_row, row_at, with_row}
use Rattle.tv_structure_form.specs.Laws.{WritesOneEntry, WritesOneSummary}
use Rattle.tv_structure_form.proofs.StructureLaws.{writes_one_entry, writes_one_summary}
use Rattle.tv_structure_form.proofs.DrawnLaws.{summary_at-past}
use Rattle.tv_struct.proofs.Library.{length-row_at, get_or-row_at, length-unary_row, get_or-unary_row}
use Rattle.tv_structure_form.proofs.Library.{value_at-past}
use Rattle.tv_struct.proofs.Library.{entry-arity}
use Rattle.tv_blur.specs.Classes.{ChangesOnly}
use Rattle.tv_join.specs.Pairwise.{IsJoined, HasJoinedValues, HasJoinedSummaries}
use Rattle.tv_join.proofs.Entries.{joined-everywhere}

-- ---- one predicate

pub joined-value : (s t new : StructureForm) (pred : ℕ) (k : K3) → IsStructure s → HasArity s pred 0
    → new ≡ with_value s pred [] k → k ≡ join_of (value_at s pred []) (value_at t pred []) → HasJoinedValues pred s t new
joined-value s t new pred k is arity e value tuple has =
    let one : WritesOneEntry s pred [] k = writes_one_entry s pred [] k is (record { arity = arity; individuals = tt })
    in let arity_new : HasArity new pred 0 = ap (λ x. slice_get x pred) (ap arities_of e ∙ one.arities) ∙ arity
    in let read : value_at new pred [] ≡ join_of (value_at s pred []) (value_at t pred [])
    = ap (λ x. value_at x pred []) e ∙ one.written ∙ value
    in at tuple (entry-arity new pred 0 tuple arity_new has) read
  where
    at : (tuple : List ℕ) → length tuple ≡ 0
        → value_at new pred [] ≡ join_of (value_at s pred []) (value_at t pred [])
        → value_at new pred tuple ≡ join_of (value_at s pred tuple) (value_at t pred tuple)
    at [] none read = read
    at (u ∷ us) none read = absurd (omega arith)

pub joined-row : (s t new : StructureForm) (pred : ℕ) (row : List K3) → new.size ≡ s.size → s.size ≡ t.size
    → HasArity new pred 1 → unary_row new pred ≡ row → row ≡ paired join_of (unary_row s pred) (unary_row t pred)
    → HasJoinedValues pred s t new
joined-row s t new pred row size like arity is e tuple has = at tuple (entry-arity new pred 1 tuple arity has) has
  where
    at : (tuple : List ℕ) → length tuple ≡ 1 → HasEntry (table_of new) pred tuple
        → value_at new pred tuple ≡ join_of (value_at s pred tuple) (value_at t pred tuple)
    at [] one has = absurd (omega arith)
    at (w ∷ u ∷ us) one has = absurd (omega arith)
    at (w ∷ []) one has =
        let in_new : w < new.size = has.individuals.0
        in let in_s : w < s.size = omega (arith, in_new, size)
        in let in_t : w < t.size = omega (arith, in_s, like)
        in let paired-at : get_or (paired join_of (unary_row s pred) (unary_row t pred)) w No
        ≡ join_of (get_or (unary_row s pred) w No) (get_or (unary_row t pred) w No)
        = get_or-paired join_of (unary_row s pred) (unary_row t pred) w
        (omega (arith, length-unary_row s pred, in_s)) (omega (arith, length-unary_row t pred, in_t))
        in sym (get_or-unary_row new pred w in_new) ∙ ap (λ r. get_or r w No) (is ∙ e) ∙ paired-at
        ∙ ap (λ k. join_of k (get_or (unary_row t pred) w No)) (get_or-unary_row s pred w in_s)
        ∙ ap (join_of (value_at s pred (w ∷ []))) (get_or-unary_row t pred w in_t)

-- the first n rows are joined
pub record HasJoinedRows (pred n : ℕ) (s t r : StructureForm) : Type 0 where
  pub changes : ChangesOnly pred s r
  pub done : (u w : ℕ) → u < n → w < s.size
      → value_at r pred (u ∷ w ∷ []) ≡ join_of (value_at s pred (u ∷ w ∷ [])) (value_at t pred (u ∷ w ∷ []))
  pub left : (u w : ℕ) → n ≤ u → value_at r pred (u ∷ w ∷ []) ≡ value_at s pred (u ∷ w ∷ [])

pub rows-none : (pred : ℕ) (s t : StructureForm) → HasJoinedRows pred 0 s t s
rows-none pred s t = record {
  changes = record { size = refl; over = refl; summaries = refl; fresh = refl; others = λ q tuple differ. refl };
  done = λ u w lt. absurd (omega arith);
  left = λ u w past. refl;
}

pub rows-more : (pred n : ℕ) (s t r new : StructureForm) (row : List K3) → s.size ≡ t.size → n < s.size
    → HasJoinedRows pred n s t r → new ≡ with_row r pred n row → arities_of new ≡ arities_of r
    → row_at new pred n ≡ row → row ≡ paired join_of (row_at r pred n) (row_at t pred n)
    → ((q : ℕ) (tuple : List ℕ) → ¬ ((q ≡ pred) × (row_of tuple ≡ n)) → value_at new q tuple ≡ value_at r q tuple)
    → HasJoinedRows pred (n + 1) s t new
rows-more pred n s t r new row like lt have e over is joined others = record {
  changes = record {
    size = size;
    over = over ∙ have.changes.over;
    summaries = ap (λ (x : StructureForm). x.summaries) e ∙ have.changes.summaries;
    fresh = ap (λ (x : StructureForm). x.fresh) e ∙ have.changes.fresh;
    others = λ q tuple differ. others q tuple (λ same. differ same.0) ∙ have.changes.others q tuple differ;
  };
  done = λ u w below within. at u w below within (cases_lt u n);
  left = λ u w past. others pred (u ∷ w ∷ []) (λ same. let is-n : u ≡ n = same.1 in omega arith) ∙ have.left u w (omega arith);
}
  where
    size : new.size ≡ s.size
    size = ap (λ (x : StructureForm). x.size) e ∙ have.changes.size

    here : (w : ℕ) → w < s.size
        → value_at new pred (n ∷ w ∷ []) ≡ join_of (value_at s pred (n ∷ w ∷ [])) (value_at t pred (n ∷ w ∷ []))
    here w within =
        let in_r : w < r.size = omega (arith, within, have.changes.size)
        in let in_t : w < t.size = omega (arith, within, like)
        in let paired-at : get_or (paired join_of (row_at r pred n) (row_at t pred n)) w No
        ≡ join_of (get_or (row_at r pred n) w No) (get_or (row_at t pred n) w No)
        = get_or-paired join_of (row_at r pred n) (row_at t pred n) w
        (omega (arith, length-row_at r pred n, in_r)) (omega (arith, length-row_at t pred n, in_t))
        in sym (get_or-row_at new pred n w (omega (arith, within, size))) ∙ ap (λ x. get_or x w No) (is ∙ joined) ∙ paired-at
        ∙ ap (λ k. join_of k (get_or (row_at t pred n) w No)) (get_or-row_at r pred n w in_r ∙ have.left n w (omega arith))
        ∙ ap (join_of (value_at s pred (n ∷ w ∷ []))) (get_or-row_at t pred n w in_t)

    at : (u w : ℕ) → u < n + 1 → w < s.size → (u < n) ⊎ (n ≤ u)
        → value_at new pred (u ∷ w ∷ []) ≡ join_of (value_at s pred (u ∷ w ∷ [])) (value_at t pred (u ∷ w ∷ []))
    at u w below within (inl before) =
        others pred (u ∷ w ∷ []) (λ same. let is-n : u ≡ n = same.1 in omega arith) ∙ have.done u w before within
    at u w below within (inr after) =
        let last : n ≡ u = omega arith
        in subst (λ x. value_at new pred (x ∷ w ∷ [])
        ≡ join_of (value_at s pred (x ∷ w ∷ [])) (value_at t pred (x ∷ w ∷ []))) last (here w within)

pub rows-all : (pred n : ℕ) (s t r : StructureForm) → HasArity s pred 2 → HasJoinedRows pred n s t r → s.size ≤ n
    → HasJoinedValues pred s t r
rows-all pred n s t r arity have all tuple has =
    at tuple (entry-arity r pred 2 tuple (ap (λ x. slice_get x pred) have.changes.over ∙ arity) has) has
  where
    at : (tuple : List ℕ) → length tuple ≡ 2 → HasEntry (table_of r) pred tuple
        → value_at r pred tuple ≡ join_of (value_at s pred tuple) (value_at t pred tuple)
    at [] two has = absurd (omega arith)
    at (w ∷ []) two has = absurd (omega arith)
    at (u ∷ w ∷ []) two has =
        let u_in : u < r.size = has.individuals.0
        in let w_in : w < r.size = has.individuals.1.0
        in have.done u w (omega (arith, u_in, have.changes.size, all)) (omega (arith, w_in, have.changes.size))
    at (w ∷ x ∷ y ∷ more) two has = absurd (omega arith)

-- ---- summaries

-- the summaries of the first n individuals are joined
pub record HasJoinedFlags (n : ℕ) (s t r : StructureForm) : Type 0 where
  pub is : IsStructure r
  pub size : r.size ≡ s.size
  pub over : arities_of r ≡ arities_of s
  pub values : (pred : ℕ) (tuple : List ℕ) → value_at r pred tuple ≡ value_at s pred tuple
  pub done : (u : ℕ) → u < n → summary_at r u ≡ (summary_at s u || summary_at t u)
  pub left : (u : ℕ) → n ≤ u → summary_at r u ≡ summary_at s u
  pub unmarked : r.fresh ≡ None

pub flags-none : (s t : StructureForm) → IsStructure s → s.fresh ≡ None → HasJoinedFlags 0 s t s
flags-none s t is unmarked = record {
  is = is;
  size = refl;
  over = refl;
  values = λ pred tuple. refl;
  done = λ u lt. absurd (omega arith);
  left = λ u past. refl;
  unmarked = unmarked;
}

pub flags-more : (n : ℕ) (s t r new : StructureForm) (on : Bool) → HasJoinedFlags n s t r → n < s.size
    → new ≡ with_summary r n on → IsStructure new → on ≡ (summary_at r n || summary_at t n)
    → HasJoinedFlags (n + 1) s t new
flags-more n s t r new on have lt e is joined = record {
  is = is;
  size = ap (λ (x : StructureForm). x.size) e ∙ have.size;
  over = ap arities_of e ∙ have.over;
  values = λ pred tuple. ap (λ x. value_at x pred tuple) e ∙ have.values pred tuple;
  done = λ u below. at u below (cases_lt u n);
  left = λ u past. ap (λ x. summary_at x u) e ∙ one.others u (λ same. omega (arith, same, past)) ∙ have.left u (omega arith);
  unmarked = ap (λ (x : StructureForm). x.fresh) e ∙ have.unmarked;
}
  where
    one : WritesOneSummary r n on
    one = writes_one_summary r n on have.is (omega (arith, lt, have.size))

    at : (u : ℕ) → u < n + 1 → (u < n) ⊎ (n ≤ u) → summary_at new u ≡ (summary_at s u || summary_at t u)
    at u below (inl before) =
        ap (λ x. summary_at x u) e ∙ one.others u (λ same. omega (arith, same, before)) ∙ have.done u before
    at u below (inr after) =
        let last : n ≡ u = omega arith
        in subst (λ x. summary_at new x ≡ (summary_at s x || summary_at t x)) last
        (ap (λ x. summary_at x n) e ∙ one.written ∙ joined ∙ ap (λ b. b || summary_at t n) (have.left n (omega arith)))

pub flags-all : (n : ℕ) (s t r : StructureForm) → HasJoinedFlags n s t r → IsStructure s → IsStructure t
    → s.size ≡ t.size → t.size ≤ n → HasJoinedSummaries s t r
flags-all n s t r have is_s is_t size all = record {
  is = have.is;
  size = have.size;
  over = have.over;
  values = have.values;
  summaries = λ u. at u (cases_lt u n);
  unmarked = have.unmarked;
}
  where
    at : (u : ℕ) → (u < n) ⊎ (n ≤ u) → summary_at r u ≡ (summary_at s u || summary_at t u)
    at u (inl lt) = have.done u lt
    at u (inr past) =
        have.left u past ∙ summary_at-past s u is_s (omega (arith, past, all, size))
        ∙ sym (ap (λ b. b || summary_at t u) (summary_at-past s u is_s (omega (arith, past, all, size)))
        ∙ summary_at-past t u is_t (omega (arith, past, all)))

-- ---- all predicates

-- the first n predicates are joined
pub record HasJoined (n : ℕ) (s t r : StructureForm) : Type 0 where
  pub size : r.size ≡ s.size
  pub over : arities_of r ≡ arities_of s
  pub done : (pred : ℕ) → pred < n → HasJoinedValues pred s t r
  pub left : (pred : ℕ) → n ≤ pred → (tuple : List ℕ) → value_at r pred tuple ≡ value_at s pred tuple
  pub summaries : (u : ℕ) → summary_at r u ≡ (summary_at s u || summary_at t u)
  pub unmarked : r.fresh ≡ None

pub joined-none : (s t r : StructureForm) → HasJoinedSummaries s t r → HasJoined 0 s t r
joined-none s t r have = record {
  size = have.size;
  over = have.over;
  done = λ pred lt. absurd (omega arith);
  left = λ pred past. have.values pred;
  summaries = have.summaries;
  unmarked = have.unmarked;
}

pub joined-more : (n : ℕ) (s t r new : StructureForm) → HasJoined n s t r → ChangesOnly n r new
    → HasJoinedValues n r t new → HasJoined (n + 1) s t new
joined-more n s t r new have changes values = record {
  size = changes.size ∙ have.size;
  over = changes.over ∙ have.over;
  done = λ pred lt. at pred lt (cases_eq pred n);
  left = λ pred past tuple. changes.others pred tuple (λ e. omega (arith, e, past)) ∙ have.left pred (omega arith) tuple;
  summaries = λ u. ap (λ flags. get_or flags u false) changes.summaries ∙ have.summaries u;
  unmarked = changes.fresh ∙ have.unmarked;
}
  where
    at : (pred : ℕ) → pred < n + 1 → (pred ≡ n) ⊎ (pred ≢ n) → HasJoinedValues pred s t new
    at pred lt (inl same) tuple has =
        let P : ℕ → Type 0 = λ q. value_at new q tuple ≡ join_of (value_at s q tuple) (value_at t q tuple)
        in subst P (sym same) (values tuple (subst (λ q. HasEntry (table_of new) q tuple) same has)
        ∙ ap (λ k. join_of k (value_at t n tuple)) (have.left n (omega arith) tuple))
    at pred lt (inr differ) tuple has =
        changes.others pred tuple differ
        ∙ have.done pred (omega arith) tuple (record {
          arity = ap (λ x. slice_get x pred) (sym changes.over) ∙ has.arity;
          individuals = rw (← changes.size) has.individuals;
        })

pub joined-all : (n : ℕ) (s t r : StructureForm) → HasJoined n s t r → IsStructure s → IsStructure t → IsStructure r
    → s.size ≡ t.size → arities_of s ≡ arities_of t → length (arities_of t) ≤ n → IsJoined s t r
joined-all n s t r have is_s is_t is_r size over all = record {
  is = is_r;
  size = have.size;
  over = have.over;
  values = λ pred tuple. at pred tuple (cases_lt pred n);
  summaries = have.summaries;
  unmarked = have.unmarked;
}
  where
    at : (pred : ℕ) (tuple : List ℕ) → (pred < n) ⊎ (n ≤ pred)
        → value_at r pred tuple ≡ join_of (value_at s pred tuple) (value_at t pred tuple)
    at pred tuple (inl lt) =
        joined-everywhere s t r is_s is_t is_r size over have.size have.over pred (have.done pred lt) tuple
    at pred tuple (inr past) =
        rw (
          value_at-past r pred tuple (omega (arith, past, all, ap length have.over, ap length over)),
          value_at-past s pred tuple (omega (arith, past, all, ap length over)),
          value_at-past t pred tuple (omega (arith, past, all)),
        ) refl

-- ---- lengths of joined rows

pub joined-row-length : (s t : StructureForm) (pred : ℕ) (mine other joined : List K3) → s.size ≡ t.size
    → mine ≡ unary_row s pred → other ≡ unary_row t pred → joined ≡ paired join_of mine other → length joined ≡ s.size
joined-row-length s t pred mine other joined size a b e =
    let first : length mine ≡ s.size = ap length a ∙ length-unary_row s pred
    in let second : length other ≡ t.size = ap length b ∙ length-unary_row t pred
    in ap length e ∙ length-paired join_of mine other (first ∙ size ∙ sym second) ∙ first

pub joined-rows-length : (s t : StructureForm) (pred u : ℕ) (mine other joined : List K3) → s.size ≡ t.size
    → mine ≡ row_at s pred u → other ≡ row_at t pred u → joined ≡ paired join_of mine other → length joined ≡ s.size
joined-rows-length s t pred u mine other joined size a b e =
    let first : length mine ≡ s.size = ap length a ∙ length-row_at s pred u
    in let second : length other ≡ t.size = ap length b ∙ length-row_at t pred u
    in ap length e ∙ length-paired join_of mine other (first ∙ size ∙ sym second) ∙ first

pub joined-values : (mine other joined a b : List K3) → mine ≡ a → other ≡ b → joined ≡ paired join_of mine other
    → joined ≡ paired join_of a b
joined-values mine other joined a b e f is = is ∙ ap (λ r. paired join_of r other) e ∙ ap (paired join_of a) f
