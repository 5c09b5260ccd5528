-- Joins of structures with the same individuals.
use Rattle.std.proofs.Common.{ℕ, ◌≡◌, ◌<◌, ◌≤◌, ◌⊎◌, inl, inr, Bool, true, false, ◌||◌, List, refl, sym, ap}
use Rattle.std.proofs.Common.{subst, ◌∙◌, arith, true≢false}
use Rattle.std.specs.Prelude.{IsTrue}
use Rattle.std.proofs.lemmas.Bool.{cases_lt, or_left, or_right}
use Rattle.tv_lemmas.proofs.Bools.{same_tests}
use Rattle.tv_kleene.specs.declared.K3.{K3}
use Rattle.tv_kleene.specs.declared.K3.TheVariants.{No}
use Rattle.tv_kleene.specs.Kleene.{LiesUnder, join_of}
use Rattle.tv_kleene.proofs.Lattice.{LiesUnder-trans, LiesUnder-antisym, join-left, join-right, join_least}
use Rattle.tv_model.specs.Program.{ProgramForm}
use Rattle.tv_embedding_laws.specs.Embedding.{IsEmbedded}
use Rattle.tv_embedding_laws.proofs.EmbeddingLaws.{IsBelow-values}
use Rattle.std.specs.List.{range_with_len}
use Rattle.tv_structure_form.specs.TableForm.{HasEntry}
use Rattle.tv_structure_form.specs.StructureForm.{StructureForm, IsStructure, structure_of, table_of}
use Rattle.tv_structure_form.specs.StructureForm.{arities_of}
use Rattle.tv_structure_form.specs.StructureForm.{value_at, summary_at}
use Rattle.tv_structure_form.proofs.DrawnLaws.{summary_at-past}
use Rattle.tv_structure_form.proofs.StructureLaws.{same_structure}
use Rattle.tv_blur.specs.Merged.{IsJoin}
use Rattle.tv_blur.proofs.MergedLaws.{IsJoin-one, IsJoin-same, IsJoin-like}
use Rattle.tv_join.specs.Keyed.{SameKey}
use Rattle.tv_join.specs.Pairwise.{IsUnder, IsJoined}
use Rattle.tv_join.proofs.Entries.{entry_or_No, entry-like, same-everywhere}
use Rattle.tv_join.specs.Flags.{key_flags, IsPlain}
use Rattle.tv_join.specs.Keys.{Key, key_of, IsValueIn, IsJoinOf, HasKey}
use Rattle.tv_join.proofs.KeyLaws.{key-from_same, same-from_key}

-- ---- flags

or-either : (a b : Bool) → IsTrue (a || b) → IsTrue a ⊎ IsTrue b
or-either true b e = inl refl
or-either false b e = inr e

-- ---- the order of information

pub under-itself : (s : StructureForm) → IsUnder s s
under-itself s = record { size = refl; over = refl; values = λ pred tuple. inl refl; summaries = λ u sm. sm }

pub under-trans : (r s t : StructureForm) → IsUnder r s → IsUnder s t → IsUnder r t
under-trans r s t a b = record {
  size = a.size ∙ b.size;
  over = a.over ∙ b.over;
  values = λ pred tuple.
      LiesUnder-trans (value_at r pred tuple) (value_at s pred tuple) (value_at t pred tuple) (a.values pred tuple)
      (b.values pred tuple);
  summaries = λ u sm. b.summaries u (a.summaries u sm);
}

-- what lies under a structure embeds in it
pub under-embeds : (s t : StructureForm) → IsUnder s t → IsEmbedded (structure_of s) (structure_of t)
under-embeds s t under = (
  (λ u. u),
  ((IsBelow-values (structure_of s) (structure_of t)).1 (record {
    individuals = ap (range_with_len 0) under.size;
    values = λ pred tuple all. under.values pred tuple;
    summaries = λ u has sm. under.summaries u sm;
  })).1,
)

-- a join lies above both
pub joined-first : (s t r : StructureForm) → IsJoined s t r → IsUnder s r
joined-first s t r joined = record {
  size = sym joined.size;
  over = sym joined.over;
  values = λ pred tuple. subst (LiesUnder (value_at s pred tuple)) (sym (joined.values pred tuple))
      (join-left (value_at s pred tuple) (value_at t pred tuple));
  summaries = λ u sm. joined.summaries u ∙ or_left (summary_at s u) (summary_at t u) sm;
}

pub joined-second : (s t r : StructureForm) → s.size ≡ t.size → arities_of s ≡ arities_of t → IsJoined s t r → IsUnder t r
joined-second s t r size over joined = record {
  size = sym (joined.size ∙ size);
  over = sym (joined.over ∙ over);
  values = λ pred tuple. subst (LiesUnder (value_at t pred tuple)) (sym (joined.values pred tuple))
      (join-right (value_at s pred tuple) (value_at t pred tuple));
  summaries = λ u sm. joined.summaries u ∙ or_right (summary_at s u) (summary_at t u) sm;
}

-- structures that lie under each other are the same
pub under-same : (s t : StructureForm) → IsStructure s → IsStructure t → s.fresh ≡ t.fresh → IsUnder s t → IsUnder t s → s ≡ t
under-same s t is_s is_t fresh a b =
    same_structure s t is_s is_t a.size a.over
    (λ pred tuple has. LiesUnder-antisym (value_at s pred tuple) (value_at t pred tuple) (a.values pred tuple) (b.values pred tuple))
    (λ u lt. same_tests (summary_at s u) (summary_at t u) (a.summaries u) (b.summaries u)) fresh

-- ---- joins

-- one structure is its own join
pub join-one : (p : ProgramForm) (X : StructureForm → Type 0) (r : StructureForm) → X r
    → ((s : StructureForm) → X s → s ≡ r) → IsPlain p r → IsJoinOf p X r
join-one p X r has all plain = record {
  is = plain.is;
  shaped = plain.shaped;
  sizes = λ s x. ap (λ (t : StructureForm). t.size) (all s x);
  values = λ pred tuple entry. record {
    above = λ j (s, x, e). inl (sym e ∙ ap (λ t. value_at t pred tuple) (all s x));
    least = λ l each. each (value_at r pred tuple) (r, has, refl);
  };
  summaries = λ u lt. (
    λ sm. (r, has, sm),
    λ (s, x, sm). subst (λ t. IsTrue (summary_at t u)) (all s x) sm,
  );
  unmarked = plain.unmarked;
}

-- the same structures have the same joins
pub join-like : (p : ProgramForm) (X Y : StructureForm → Type 0) (t : StructureForm) → ((s : StructureForm) → X s → Y s)
    → ((s : StructureForm) → Y s → X s) → IsJoinOf p X t → IsJoinOf p Y t
join-like p X Y t to from join = record {
  is = join.is;
  shaped = join.shaped;
  sizes = λ s y. join.sizes s (from s y);
  values = λ pred tuple entry.
      IsJoin-like (IsValueIn X pred tuple) (IsValueIn Y pred tuple) (value_at t pred tuple)
      (λ j (s, x, e). (s, to s x, e)) (λ j (s, y, e). (s, from s y, e)) (join.values pred tuple entry);
  summaries = λ u lt. (
    λ sm. let has = (join.summaries u lt).0 sm in (has.0, to has.0 has.1, has.2),
    λ (s, y, sm). (join.summaries u lt).1 (s, from s y, sm),
  );
  unmarked = join.unmarked;
}

-- one more structure is joined with what was joined before
pub join-more : (p : ProgramForm) (X : StructureForm → Type 0) (t r new : StructureForm) → IsPlain p r → r.size ≡ t.size
    → IsJoined r t new → IsJoinOf p X t → IsJoinOf p (λ s. X s ⊎ (s ≡ r)) new
join-more p X t r new plain size joined join = record {
  is = joined.is;
  shaped = record {
    over = joined.over ∙ plain.shaped.over;
    planes = joined.is.table.planes;
    summaries = joined.is.summaries;
  };
  sizes = sizes;
  values = values;
  summaries = λ u lt. (
    λ sm. into u lt (or-either (summary_at r u) (summary_at t u) (sym (joined.summaries u) ∙ sm)),
    λ (s, x, sm). joined.summaries u ∙ back u lt s x sm,
  );
  unmarked = joined.unmarked;
}
  where
    over : arities_of new ≡ arities_of t
    over = joined.over ∙ plain.shaped.over ∙ sym join.shaped.over

    sizes : (s : StructureForm) → X s ⊎ (s ≡ r) → s.size ≡ new.size
    sizes s (inl x) = join.sizes s x ∙ sym size ∙ sym joined.size
    sizes s (inr e) = ap (λ (y : StructureForm). y.size) e ∙ sym joined.size

    values : (pred : ℕ) (tuple : List ℕ) → HasEntry (table_of new) pred tuple
        → IsJoin (IsValueIn (λ s. X s ⊎ (s ≡ r)) pred tuple) (value_at new pred tuple)
    values pred tuple entry =
        subst (IsJoin (IsValueIn (λ s. X s ⊎ (s ≡ r)) pred tuple)) (sym (joined.values pred tuple)) (record {
          above = above;
          least = λ l each.
              join_least (value_at r pred tuple) (value_at t pred tuple) l (each (value_at r pred tuple) (r, inr refl, refl))
              (old.least l (λ j (s, x, e). each j (s, inl x, e)));
        })
      where
        old : IsJoin (IsValueIn X pred tuple) (value_at t pred tuple)
        old = join.values pred tuple (entry-like new t pred tuple (joined.size ∙ size) over entry)

        above : (j : K3) → IsValueIn (λ s. X s ⊎ (s ≡ r)) pred tuple j
            → LiesUnder j (join_of (value_at r pred tuple) (value_at t pred tuple))
        above j (s, inl x, e) =
            LiesUnder-trans j (value_at t pred tuple) (join_of (value_at r pred tuple) (value_at t pred tuple))
            (old.above j (s, x, e)) (join-right (value_at r pred tuple) (value_at t pred tuple))
        above j (s, inr same, e) =
            subst (λ k. LiesUnder k (join_of (value_at r pred tuple) (value_at t pred tuple)))
            (ap (λ y. value_at y pred tuple) (sym same) ∙ e)
            (join-left (value_at r pred tuple) (value_at t pred tuple))

    into : (u : ℕ) → u < new.size → IsTrue (summary_at r u) ⊎ IsTrue (summary_at t u)
        → (s : StructureForm) × (X s ⊎ (s ≡ r)) × IsTrue (summary_at s u)
    into u lt (inl sm) = (r, inr refl, sm)
    into u lt (inr sm) =
        let has = (join.summaries u (omega (arith, lt, joined.size, size))).0 sm
        in (has.0, inl has.1, has.2)

    back : (u : ℕ) → u < new.size → (s : StructureForm) → X s ⊎ (s ≡ r) → IsTrue (summary_at s u)
        → IsTrue (summary_at r u || summary_at t u)
    back u lt s (inl x) sm =
        or_right (summary_at r u) (summary_at t u) ((join.summaries u (omega (arith, lt, joined.size, size))).1 (s, x, sm))
    back u lt s (inr e) sm =
        or_left (summary_at r u) (summary_at t u) (subst (λ y. IsTrue (summary_at y u)) e sm)

-- a structure that lies under one of those joined adds nothing
pub join-absorbs : (p : ProgramForm) (X Y : StructureForm → Type 0) (t : StructureForm)
    → ((y : StructureForm) → Y y → (x : StructureForm) × X x × IsUnder y x) → IsJoinOf p X t
    → IsJoinOf p (λ s. X s ⊎ Y s) t
join-absorbs p X Y t under join = record {
  is = join.is;
  shaped = join.shaped;
  sizes = sizes;
  values = λ pred tuple entry. record {
    above = above pred tuple entry;
    least = λ l each. (join.values pred tuple entry).least l (λ j (s, x, e). each j (s, inl x, e));
  };
  summaries = λ u lt. (
    λ sm. let has = (join.summaries u lt).0 sm in (has.0, inl has.1, has.2),
    λ (s, has, sm). (join.summaries u lt).1 (back u s has sm),
  );
  unmarked = join.unmarked;
}
  where
    sizes : (s : StructureForm) → X s ⊎ Y s → s.size ≡ t.size
    sizes s (inl x) = join.sizes s x
    sizes s (inr y) = let up = under s y in up.2.size ∙ join.sizes up.0 up.1

    above : (pred : ℕ) (tuple : List ℕ) → HasEntry (table_of t) pred tuple → (j : K3)
        → IsValueIn (λ s. X s ⊎ Y s) pred tuple j → LiesUnder j (value_at t pred tuple)
    above pred tuple entry j (s, inl x, e) = (join.values pred tuple entry).above j (s, x, e)
    above pred tuple entry j (s, inr y, e) =
        let up = under s y
        in LiesUnder-trans j (value_at up.0 pred tuple) (value_at t pred tuple)
        (subst (λ k. LiesUnder k (value_at up.0 pred tuple)) e (up.2.values pred tuple))
        ((join.values pred tuple entry).above (value_at up.0 pred tuple) (up.0, up.1, refl))

    back : (u : ℕ) (s : StructureForm) → X s ⊎ Y s → IsTrue (summary_at s u)
        → (x : StructureForm) × X x × IsTrue (summary_at x u)
    back u s (inl x) sm = (s, x, sm)
    back u s (inr y) sm = let up = under s y in (up.0, up.1, up.2.summaries u sm)

-- what is joined lies under the join
pub join-above : (p : ProgramForm) (X : StructureForm → Type 0) (t s : StructureForm) → IsJoinOf p X t → X s → IsPlain p s
    → IsUnder s t
join-above p X t s join x plain = record {
  size = size;
  over = over;
  values = λ pred tuple. by pred tuple (entry_or_No s plain.is pred tuple) (entry_or_No t join.is pred tuple);
  summaries = λ u sm. (join.summaries u (within u sm (cases_lt u t.size))).1 (s, x, sm);
}
  where
    size : s.size ≡ t.size
    size = join.sizes s x

    over : arities_of s ≡ arities_of t
    over = plain.shaped.over ∙ sym join.shaped.over

    by : (pred : ℕ) (tuple : List ℕ) → HasEntry (table_of s) pred tuple ⊎ (value_at s pred tuple ≡ No)
        → HasEntry (table_of t) pred tuple ⊎ (value_at t pred tuple ≡ No)
        → LiesUnder (value_at s pred tuple) (value_at t pred tuple)
    by pred tuple (inl has) other =
        (join.values pred tuple (entry-like s t pred tuple size over has)).above (value_at s pred tuple) (s, x, refl)
    by pred tuple (inr a) (inl has) = (join.values pred tuple has).above (value_at s pred tuple) (s, x, refl)
    by pred tuple (inr a) (inr b) = inl (a ∙ sym b)

    within : (u : ℕ) → IsTrue (summary_at s u) → (u < t.size) ⊎ (t.size ≤ u) → u < t.size
    within u sm (inl lt) = lt
    within u sm (inr past) =
        absurd (true≢false (sym sm ∙ summary_at-past s u plain.is (omega (arith, past, size))))

-- there is one join
pub join-once : (p : ProgramForm) (X : StructureForm → Type 0) (t r s : StructureForm) → X s → IsJoinOf p X t → IsJoinOf p X r
    → t ≡ r
join-once p X t r s x a b =
    let size : t.size ≡ r.size = sym (a.sizes s x) ∙ b.sizes s x
    in let over : arities_of t ≡ arities_of r = a.shaped.over ∙ sym b.shaped.over
    in same_structure t r a.is b.is size over
    (λ pred tuple has. IsJoin-same (IsValueIn X pred tuple) (IsValueIn X pred tuple) (value_at t pred tuple)
    (value_at r pred tuple) (λ j v. v) (λ j v. v) (a.values pred tuple has)
    (b.values pred tuple (entry-like t r pred tuple size over has)))
    (λ u lt. same_tests (summary_at t u) (summary_at r u)
    (λ sm. (b.summaries u (omega (arith, lt, size))).1 ((a.summaries u lt).0 sm))
    (λ sm. (a.summaries u lt).1 ((b.summaries u (omega (arith, lt, size))).0 sm)))
    (a.unmarked ∙ sym b.unmarked)

pub join-plain : (p : ProgramForm) (X : StructureForm → Type 0) (t : StructureForm) → IsJoinOf p X t → IsPlain p t
join-plain p X t join = record { is = join.is; shaped = join.shaped; unmarked = join.unmarked }

-- the join of structures of one key has that key
pub join-key : (p : ProgramForm) (X : StructureForm → Type 0) (key : Key) (t s : StructureForm)
    → ((r : StructureForm) → X r → IsPlain p r) → HasKey p X key s → IsJoinOf p (HasKey p X key) t → key_of p t ≡ key
join-key p X key t s plain has join = sym (key-from_same p s t same) ∙ has.1
  where
    size : s.size ≡ t.size
    size = join.sizes s has

    over : arities_of s ≡ arities_of t
    over = (plain s has.0).shaped.over ∙ sym join.shaped.over

    same : SameKey (key_flags p) s t
    same = record {
      size = size;
      over = over;
      values = λ pred does.
          same-everywhere s t (plain s has.0).is join.is size over pred
          (λ tuple entry.
          sym (IsJoin-one (IsValueIn (HasKey p X key) pred tuple) (value_at s pred tuple) (value_at t pred tuple)
          (join.values pred tuple entry) (s, has, refl)
          (λ j (r, (x, k), e). sym e
          ∙ sym ((same-from_key p s r (plain s has.0) (plain r x) (has.1 ∙ sym k)).values pred does tuple))));
    }
