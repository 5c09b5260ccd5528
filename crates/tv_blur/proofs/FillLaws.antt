-- Writing merged values predicate by predicate.
use Rattle.std.proofs.Common.{ℕ, ◌≡◌, ◌≢◌, ◌⊎◌, ◌<◌, ◌≤◌, ◌+◌, ◌*◌, inl, inr, Bool, false, true, List, []}
use Rattle.std.proofs.Common.{◌∷◌, get_or}
use Rattle.std.proofs.Common.{length, None, refl, sym, ap, subst, ◌∙◌, arith}
use Rattle.std.specs.Prelude.{Any, Contains, ◌||◌, nat_lt, slice_get}
use Rattle.std.proofs.lemmas.List.{get_or_default}
use Rattle.std.proofs.lemmas.Bool.{cases_eq, cases_lt}
use Rattle.std.proofs.lemmas.List.Elements.{All-contains}
use Rattle.std.proofs.lemmas.List.FromFn.{length-map-range_with_len, get_or-map-range_with_len}
use Rattle.tv_kleene.specs.declared.K3.{K3}
use Rattle.tv_kleene.specs.declared.K3.TheVariants.{No}
use Rattle.tv_structure_form.specs.TableForm.{HasEntry, row_of}
use Rattle.tv_structure_form.specs.StructureForm.{StructureForm, IsStructure, table_of, value_at, summary_at}
use Rattle.tv_structure_form.specs.StructureForm.{arities_of, with_value, with_summary}
use Rattle.tv_struct.specs.StructureRows.{HasArity, flag_value, row_at, summary_row, unary_row, with_row}
use Rattle.tv_structure_form.specs.Laws.{WritesOneEntry, WritesOneSummary}
use Rattle.tv_structure_form.proofs.StructureLaws.{writes_one_entry, writes_one_summary}
use Rattle.tv_struct.proofs.Library.{get_or-row_at, length-unary_row, get_or-unary_row, entry-arity}
use Rattle.tv_blur.specs.Merged.{IsJoin}
use Rattle.tv_blur.specs.Classes.{ChangesOnly, HasMergedValues, HasMerged, AreClasses, IsMergedValue}
use Rattle.tv_blur.specs.Classes.{IsAmongMembers, IsBlank, IsBlankFrom, class_at, is_merged_summary}
use Rattle.tv_blur.proofs.JoinLaws.{join_is, join_joins, merged_none, merged_one, merged_two}
use Rattle.tv_blur.proofs.RowLaws.{joined-none}
use Rattle.tv_blur.proofs.WordLaws.{none_joins, same_joins}

-- ---- nullary predicates

pub value_changes : (t : StructureForm) (pred : ℕ) (k : K3) (new : StructureForm) → IsStructure t → HasArity t pred 0
    → new ≡ with_value t pred [] k → ChangesOnly pred t new
value_changes t pred k new is arity e =
    let one : WritesOneEntry t pred [] k = writes_one_entry t pred [] k is (record { arity = arity; individuals = tt })
    in let P : StructureForm → Type 0 = λ x. ChangesOnly pred t x
    in subst P (sym e) (record {
      size = refl;
      over = one.arities;
      summaries = refl;
      fresh = refl;
      others = λ q tuple differ. one.others q tuple (λ same. differ same.0);
    })

pub value_merged : (classes : List (List ℕ)) (s t : StructureForm) (pred : ℕ) (k : K3) (new : StructureForm) → IsStructure t
    → HasArity t pred 0 → new ≡ with_value t pred [] k → k ≡ value_at s pred [] → HasMergedValues classes s pred new
value_merged classes s t pred k new is arity e value tuple has =
    let one : WritesOneEntry t pred [] k = writes_one_entry t pred [] k is (record { arity = arity; individuals = tt })
    in let arity_new : HasArity new pred 0 = ap (λ x. slice_get x pred) (ap arities_of e ∙ one.arities) ∙ arity
    in let read : value_at new pred [] ≡ value_at s pred [] = ap (λ x. value_at x pred []) e ∙ one.written ∙ value
    in at tuple (entry-arity new pred 0 tuple arity_new has) read
  where
    at : (tuple : List ℕ) → length tuple ≡ 0 → value_at new pred [] ≡ value_at s pred []
        → IsMergedValue classes s pred tuple (value_at new pred tuple)
    at [] none read = let P : K3 → Type 0 = λ x. IsMergedValue classes s pred [] x in subst P (sym read) (merged_none classes s pred)
    at (u ∷ us) none read = absurd (omega arith)

-- a nullary predicate that is No
pub none_merged : (classes : List (List ℕ)) (s t : StructureForm) (pred : ℕ) → HasArity t pred 0 → IsBlank pred t
    → value_at s pred [] ≡ No → HasMergedValues classes s pred t
none_merged classes s t pred arity blank none tuple has = at tuple (entry-arity t pred 0 tuple arity has)
  where
    at : (tuple : List ℕ) → length tuple ≡ 0 → IsMergedValue classes s pred tuple (value_at t pred tuple)
    at [] nullary =
        let P : K3 → Type 0 = λ x. IsMergedValue classes s pred [] x
        in subst P (none ∙ sym (blank [])) (merged_none classes s pred)
    at (u ∷ us) nullary = absurd (omega arith)

-- ---- unary predicates

pub row_changes : (t : StructureForm) (pred row : ℕ) (values : List K3) (new : StructureForm) → new ≡ with_row t pred row values
    → arities_of new ≡ arities_of t
    → ((q : ℕ) (tuple : List ℕ) → q ≢ pred → value_at new q tuple ≡ value_at t q tuple) → ChangesOnly pred t new
row_changes t pred row values new e over others = record {
  size = ap (λ (x : StructureForm). x.size) e;
  over = over;
  summaries = ap (λ (x : StructureForm). x.summaries) e;
  fresh = ap (λ (x : StructureForm). x.fresh) e;
  others = others;
}

pub row_merged : (classes : List (List ℕ)) (s new : StructureForm) (pred : ℕ) (merged : List K3) → AreClasses s classes
    → new.size ≡ length classes → HasArity new pred 1 → unary_row new pred ≡ merged
    → ((w : ℕ) → w < length classes
    → IsJoin (IsAmongMembers (λ u j. get_or (unary_row s pred) u No ≡ j) (class_at classes w)) (get_or merged w No))
    → HasMergedValues classes s pred new
row_merged classes s new pred merged are size arity row joins tuple has =
    at tuple (entry-arity new pred 1 tuple arity has) has
  where
    at : (tuple : List ℕ) → length tuple ≡ 1 → HasEntry (table_of new) pred tuple
        → IsMergedValue classes s pred tuple (value_at new pred tuple)
    at [] one has = absurd (omega arith)
    at (w ∷ u ∷ us) one has = absurd (omega arith)
    at (w ∷ []) one has =
        let in_new : w < new.size = has.individuals.0
        in let within : w < length classes = omega arith
        in let read : get_or merged w No ≡ value_at new pred (w ∷ [])
        = sym (ap (λ r. get_or r w No) row) ∙ get_or-unary_row new pred w in_new
        in let P : K3 → Type 0 = λ x. IsMergedValue classes s pred (w ∷ []) x
        in subst P read
        (merged_one classes s pred w (get_or merged w No)
        (join_joins (λ u j. value_at s pred (u ∷ []) ≡ j) (λ u. get_or (unary_row s pred) u No) (class_at classes w)
        (get_or merged w No)
        (λ u at. join_is (value_at s pred (u ∷ [])) (get_or (unary_row s pred) u No)
        (get_or-unary_row s pred u (All-contains (λ x. x < s.size) (class_at classes w) u (are.within w [] within) at)))
        (joins w within)))

-- where the predicate is No at each individual, nothing is written
pub unchanged : (pred : ℕ) (t : StructureForm) → ChangesOnly pred t t
unchanged pred t = record { size = refl; over = refl; summaries = refl; fresh = refl; others = λ q tuple differ. refl }

pub word_held : (s : StructureForm) (pred : ℕ) (word : List K3) → s.size ≤ 64
    → ((i : ℕ) → i < 64 → 64 * 0 + i < s.size → get_or word i No ≡ value_at s pred ((64 * 0 + i) ∷ []))
    → (u : ℕ) → u < s.size → get_or word u No ≡ value_at s pred (u ∷ [])
word_held s pred word few holds u lt =
    let P : ℕ → Type 0 = λ x. get_or word u No ≡ value_at s pred (x ∷ [])
    in subst P (omega arith) (holds u (omega (arith, few, lt)) (omega (arith, lt)))

pub nowhere_merged : (classes : List (List ℕ)) (s t : StructureForm) (pred : ℕ) → AreClasses s classes → t.size ≡ length classes
    → HasArity t pred 1 → IsBlank pred t → ((u : ℕ) → u < s.size → value_at s pred (u ∷ []) ≡ No)
    → HasMergedValues classes s pred t
nowhere_merged classes s t pred are size arity blank none =
    row_merged classes s t pred (unary_row t pred) are size arity refl
    (λ w lt. rw (get_or-unary_row t pred w (omega (arith, size, lt)), blank (w ∷ []))
    (joined-none (unary_row s pred) (class_at classes w) nothing (are.some w [] lt)))
  where
    nothing : ¬ Any (λ k. k ≢ No) (unary_row s pred)
    nothing (u, k, lt, is, other) =
        other (sym is ∙ get_or_default (unary_row s pred) u k No lt ∙ get_or-unary_row s pred u (inside u lt) ∙ none u (inside u lt))
      where
        inside : (u : ℕ) → u < length (unary_row s pred) → u < s.size
        inside u lt = rw (length-unary_row s pred) at lt

-- the joins of a word that holds the values are those of the row
pub word_merged : (classes : List (List ℕ)) (s : StructureForm) (pred : ℕ) (word merged : List K3) → AreClasses s classes
    → s.size ≤ 64 → ((i : ℕ) → i < 64 → 64 * 0 + i < s.size → get_or word i No ≡ value_at s pred ((64 * 0 + i) ∷ []))
    → (w : ℕ) → w < length classes
    → IsJoin (IsAmongMembers (λ u j. get_or word u No ≡ j) (class_at classes w)) (get_or merged w No)
    → IsJoin (IsAmongMembers (λ u j. get_or (unary_row s pred) u No ≡ j) (class_at classes w)) (get_or merged w No)
word_merged classes s pred word merged are few holds w lt =
    same_joins word (unary_row s pred) (class_at classes w) (get_or merged w No)
    (λ u has.
    let inside : u < s.size = All-contains (λ x. x < s.size) (class_at classes w) u (are.within w [] lt) has
    in word_held s pred word few holds u inside ∙ sym (get_or-unary_row s pred u inside))

-- ---- binary predicates, row by row

pub record HasRows (classes : List (List ℕ)) (s : StructureForm) (pred n : ℕ) (old t : StructureForm) : Type 0 where
  pub changes : ChangesOnly pred old t
  pub rows : (w x : ℕ) → w < n → x < length classes → IsMergedValue classes s pred (w ∷ x ∷ []) (value_at t pred (w ∷ x ∷ []))
  pub rest : (w x : ℕ) → n ≤ w → value_at t pred (w ∷ x ∷ []) ≡ value_at old pred (w ∷ x ∷ [])

pub rows_none : (classes : List (List ℕ)) (s : StructureForm) (pred : ℕ) (t : StructureForm) → HasRows classes s pred 0 t t
rows_none classes s pred t = record {
  changes = unchanged pred t;
  rows = λ w x lt within. absurd (omega arith);
  rest = λ w x past. refl;
}

pub rows_more : (classes : List (List ℕ)) (s : StructureForm) (pred n : ℕ) (old t new : StructureForm) (joined merged : List K3)
    → AreClasses s classes → old.size ≡ length classes → n < length classes
    → HasRows classes s pred n old t → new ≡ with_row t pred n merged → arities_of new ≡ arities_of t
    → row_at new pred n ≡ merged
    → ((q : ℕ) (tuple : List ℕ) → ¬ ((q ≡ pred) × (row_of tuple ≡ n)) → value_at new q tuple ≡ value_at t q tuple)
    → ((v : ℕ) → v < s.size → IsJoin (IsAmongMembers (λ u j. value_at s pred (u ∷ v ∷ []) ≡ j) (class_at classes n)) (get_or joined v No))
    → ((x : ℕ) → x < length classes → IsJoin (IsAmongMembers (λ v j. get_or joined v No ≡ j) (class_at classes x)) (get_or merged x No))
    → HasRows classes s pred (n + 1) old new
rows_more classes s pred n old t new joined merged are size lt have e over row others inner outer = record {
  changes = record {
    size = ap (λ (x : StructureForm). x.size) e ∙ have.changes.size;
    over = over ∙ have.changes.over;
    summaries = ap (λ (x : StructureForm). x.summaries) e ∙ have.changes.summaries;
    fresh = ap (λ (x : StructureForm). x.fresh) e ∙ have.changes.fresh;
    others = λ q tuple differ. others q tuple (λ same. differ same.0) ∙ have.changes.others q tuple differ;
  };
  rows = λ w x below within. at w x below within (cases_lt w n);
  rest = λ w x past.
      others pred (w ∷ x ∷ []) (λ same. let is : w ≡ n = same.1 in omega (arith, is, past)) ∙ have.rest w x (omega (arith, past));
}
  where
    at : (w x : ℕ) → w < n + 1 → x < length classes → (w < n) ⊎ (n ≤ w)
        → IsMergedValue classes s pred (w ∷ x ∷ []) (value_at new pred (w ∷ x ∷ []))
    at w x below within (inl before) =
        let P : K3 → Type 0 = λ k. IsMergedValue classes s pred (w ∷ x ∷ []) k
        in subst P (sym (others pred (w ∷ x ∷ []) (λ same. let is : w ≡ n = same.1 in omega arith))) (have.rows w x before within)
    at w x below within (inr after) =
        let last : n ≡ w = omega arith
        in let new_size : new.size ≡ length classes = ap (λ (y : StructureForm). y.size) e ∙ have.changes.size ∙ size
        in let read : get_or merged x No ≡ value_at new pred (n ∷ x ∷ [])
        = sym (ap (λ r. get_or r x No) row) ∙ get_or-row_at new pred n x (omega arith)
        in let P : K3 → Type 0 = λ k. IsMergedValue classes s pred (n ∷ x ∷ []) k
        in let Q : ℕ → Type 0 = λ y. IsMergedValue classes s pred (y ∷ x ∷ []) (value_at new pred (y ∷ x ∷ []))
        in subst Q last (subst P read
        (merged_two classes s pred n x (get_or merged x No)
        (join_joins (λ v. IsAmongMembers (λ u j. value_at s pred (u ∷ v ∷ []) ≡ j) (class_at classes n)) (λ v. get_or joined v No)
        (class_at classes x) (get_or merged x No)
        (λ v has. inner v (All-contains (λ y. y < s.size) (class_at classes x) v (are.within x [] within) has))
        (outer x within))))

-- a row of No is passed over
pub rows_past : (classes : List (List ℕ)) (s : StructureForm) (pred n : ℕ) (old t : StructureForm) (joined : List K3)
    → AreClasses s classes → n < length classes → IsBlank pred old → HasRows classes s pred n old t
    → ((v : ℕ) → v < s.size → IsJoin (IsAmongMembers (λ u j. value_at s pred (u ∷ v ∷ []) ≡ j) (class_at classes n)) (get_or joined v No))
    → ((v : ℕ) → v < s.size → get_or joined v No ≡ No) → HasRows classes s pred (n + 1) old t
rows_past classes s pred n old t joined are lt blank have inner none = record {
  changes = have.changes;
  rows = λ w x below within. at w x below within (cases_lt w n);
  rest = λ w x past. have.rest w x (omega (arith, past));
}
  where
    at : (w x : ℕ) → w < n + 1 → x < length classes → (w < n) ⊎ (n ≤ w)
        → IsMergedValue classes s pred (w ∷ x ∷ []) (value_at t pred (w ∷ x ∷ []))
    at w x below within (inl before) = have.rows w x before within
    at w x below within (inr after) =
        let last : n ≡ w = omega arith
        in let read : No ≡ value_at t pred (n ∷ x ∷ []) = sym (have.rest n x (omega arith) ∙ blank (n ∷ x ∷ []))
        in let P : K3 → Type 0 = λ k. IsMergedValue classes s pred (n ∷ x ∷ []) k
        in let Q : ℕ → Type 0 = λ y. IsMergedValue classes s pred (y ∷ x ∷ []) (value_at t pred (y ∷ x ∷ []))
        in let inside : (v : ℕ) → Contains (class_at classes x) v → v < s.size
        = λ v has. All-contains (λ y. y < s.size) (class_at classes x) v (are.within x [] within) has
        in subst Q last (subst P read
        (merged_two classes s pred n x No
        (join_joins (λ v. IsAmongMembers (λ u j. value_at s pred (u ∷ v ∷ []) ≡ j) (class_at classes n)) (λ v. get_or joined v No)
        (class_at classes x) No
        (λ v has. inner v (inside v has))
        (none_joins joined (class_at classes x) (are.some x [] within) (λ v has. none v (inside v has))))))

pub rows_all : (classes : List (List ℕ)) (s : StructureForm) (pred n : ℕ) (old t : StructureForm) → old.size ≡ length classes
    → HasArity t pred 2 → HasRows classes s pred n old t → length classes ≤ n → HasMergedValues classes s pred t
rows_all classes s pred n old t size arity have all tuple has = at tuple (entry-arity t pred 2 tuple arity has) has
  where
    at : (tuple : List ℕ) → length tuple ≡ 2 → HasEntry (table_of t) pred tuple
        → IsMergedValue classes s pred tuple (value_at t pred tuple)
    at [] two has = absurd (omega arith)
    at (w ∷ []) two has = absurd (omega arith)
    at (w ∷ x ∷ []) two has =
        let same : t.size ≡ length classes = have.changes.size ∙ size
        in let w_in : w < t.size = has.individuals.0
        in let x_in : x < t.size = has.individuals.1.0
        in have.rows w x (omega arith) (omega arith)
    at (w ∷ x ∷ y ∷ more) two has = absurd (omega arith)

-- ---- all predicates

pub merged_more : (classes : List (List ℕ)) (s : StructureForm) (n : ℕ) (t new : StructureForm) → HasMerged classes s n t
    → ChangesOnly n t new → HasMergedValues classes s n new → HasMerged classes s (n + 1) new
merged_more classes s n t new have changes values = record {
  size = changes.size ∙ have.size;
  over = changes.over ∙ have.over;
  fresh = changes.fresh ∙ have.fresh;
  summaries = λ w lt. ap (λ flags. get_or flags w false) changes.summaries ∙ have.summaries w lt;
  values = λ pred lt. at pred lt (cases_eq pred n);
}
  where
    at : (pred : ℕ) → pred < n + 1 → (pred ≡ n) ⊎ (pred ≢ n) → HasMergedValues classes s pred new
    at pred lt (inl same) = let P : ℕ → Type 0 = λ q. HasMergedValues classes s q new in subst P (sym same) values
    at pred lt (inr differ) =
        λ tuple has.
        let P : K3 → Type 0 = λ k. IsMergedValue classes s pred tuple k
        in subst P (sym (changes.others pred tuple differ))
        (have.values pred (omega arith) tuple (record {
          arity = ap (λ x. slice_get x pred) (sym changes.over) ∙ has.arity;
          individuals = rw (← changes.size) has.individuals;
        }))

pub blank_more : (n : ℕ) (t new : StructureForm) → ChangesOnly n t new → IsBlankFrom n t → IsBlankFrom (n + 1) new
blank_more n t new changes blank pred past tuple =
    changes.others pred tuple (λ same. omega (arith, same, past)) ∙ blank pred (omega (arith, past)) tuple

-- ---- summaries

pub record HasSummaries (classes : List (List ℕ)) (s : StructureForm) (n : ℕ) (t : StructureForm) : Type 0 where
  pub is : IsStructure t
  pub size : t.size ≡ length classes
  pub over : arities_of t ≡ arities_of s
  pub fresh : t.fresh ≡ None
  pub flags : (w : ℕ) → w < n → summary_at t w ≡ is_merged_summary s (class_at classes w)
  pub plain : (w : ℕ) → n ≤ w → summary_at t w ≡ false
  pub blank : IsBlankFrom 0 t

pub summaries_none : (classes : List (List ℕ)) (s t : StructureForm) → IsStructure t → t.size ≡ length classes
    → arities_of t ≡ arities_of s → t.fresh ≡ None → ((w : ℕ) → summary_at t w ≡ false) → IsBlankFrom 0 t
    → HasSummaries classes s 0 t
summaries_none classes s t is size over fresh plain blank = record {
  is = is;
  size = size;
  over = over;
  fresh = fresh;
  flags = λ w lt. absurd (omega arith);
  plain = λ w past. plain w;
  blank = blank;
}

pub summaries_more : (classes : List (List ℕ)) (s : StructureForm) (n : ℕ) (t new : StructureForm) (on : Bool)
    → HasSummaries classes s n t → n < length classes → new ≡ with_summary t n on → IsStructure new
    → on ≡ is_merged_summary s (class_at classes n) → HasSummaries classes s (n + 1) new
summaries_more classes s n t new on have lt e is is_on = record {
  is = is;
  size = ap (λ (x : StructureForm). x.size) e ∙ have.size;
  over = ap arities_of e ∙ have.over;
  fresh = ap (λ (x : StructureForm). x.fresh) e ∙ have.fresh;
  flags = λ w below. at w below (cases_eq w n);
  plain = λ w past.
      ap (λ x. summary_at x w) e ∙ one.others w (λ same. omega (arith, same, past)) ∙ have.plain w (omega (arith, past));
  blank = λ pred past tuple. ap (λ x. value_at x pred tuple) e ∙ have.blank pred past tuple;
}
  where
    one : WritesOneSummary t n on
    one = writes_one_summary t n on have.is (omega (arith, have.size))

    at : (w : ℕ) → w < n + 1 → (w ≡ n) ⊎ (w ≢ n) → summary_at new w ≡ is_merged_summary s (class_at classes w)
    at w below (inl same) =
        let P : ℕ → Type 0 = λ x. summary_at new x ≡ is_merged_summary s (class_at classes x)
        in subst P (sym same) (ap (λ x. summary_at x n) e ∙ one.written ∙ is_on)
    at w below (inr differ) = ap (λ x. summary_at x w) e ∙ one.others w differ ∙ have.flags w (omega arith)

-- a class that is no summary is passed over
pub summaries_past : (classes : List (List ℕ)) (s : StructureForm) (n : ℕ) (t : StructureForm)
    → HasSummaries classes s n t → false ≡ is_merged_summary s (class_at classes n) → HasSummaries classes s (n + 1) t
summaries_past classes s n t have off = record {
  is = have.is;
  size = have.size;
  over = have.over;
  fresh = have.fresh;
  flags = λ w below. at w below (cases_eq w n);
  plain = λ w past. have.plain w (omega (arith, past));
  blank = have.blank;
}
  where
    at : (w : ℕ) → w < n + 1 → (w ≡ n) ⊎ (w ≢ n) → summary_at t w ≡ is_merged_summary s (class_at classes w)
    at w below (inl same) =
        let P : ℕ → Type 0 = λ x. summary_at t x ≡ is_merged_summary s (class_at classes x)
        in subst P (sym same) (have.plain n (omega arith) ∙ off)
    at w below (inr differ) = have.flags w (omega (arith, below, differ))

pub length-summary_row : (s : StructureForm) → length (summary_row s) ≡ s.size
length-summary_row s = length-map-range_with_len (λ x. flag_value (summary_at s x)) 0 s.size

flag_at : (s : StructureForm) (row : List K3) (u : ℕ) → row ≡ summary_row s → u < length row
    → get_or row u No ≡ flag_value (summary_at s u)
flag_at s row u is lt =
    ap (λ r. get_or r u No) is
    ∙ get_or-map-range_with_len (λ x. flag_value (summary_at s x)) 0 s.size u u No
    (omega (arith, lt, ap length is, length-summary_row s)) (omega arith)

-- the row of flags tells whether an individual is a summary
pub flag_off : (s : StructureForm) (row : List K3) (u : ℕ) → row ≡ summary_row s → u < length row → get_or row u No ≡ No
    → false ≡ summary_at s u
flag_off s row u is lt none = off (summary_at s u) (sym (flag_at s row u is lt) ∙ none)
  where
    off : (b : Bool) → flag_value b ≡ No → false ≡ b
    off false e = refl
    off true e = absurd (cc e)

pub flag_on : (s : StructureForm) (row : List K3) (u : ℕ) → row ≡ summary_row s → u < length row → get_or row u No ≢ No
    → true ≡ summary_at s u
flag_on s row u is lt some = on (summary_at s u) (λ e. some (flag_at s row u is lt ∙ e))
  where
    on : (b : Bool) → flag_value b ≢ No → true ≡ b
    on false e = absurd (e refl)
    on true e = refl

-- a class of one is a summary where the one is
pub summary_one : (s : StructureForm) (members : List ℕ) (on : Bool) → nat_lt 1 (length members) ≡ false
    → on ≡ summary_at s (get_or members 0 0) → on ≡ is_merged_summary s members
summary_one s members on one is = is ∙ ap (λ several. several || summary_at s (get_or members 0 0)) (sym one)

pub summaries_all : (classes : List (List ℕ)) (s : StructureForm) (n : ℕ) (t : StructureForm) → HasSummaries classes s n t
    → length classes ≤ n → HasMerged classes s 0 t
summaries_all classes s n t have all = record {
  size = have.size;
  over = have.over;
  fresh = have.fresh;
  summaries = λ w lt. have.flags w (omega arith);
  values = λ pred lt. absurd (omega arith);
}
