-- The place of a structure is noted by its skeleton.
use Rattle.std.proofs.Common.{ℕ, ◌≡◌, ◌≢◌, ◌<◌, ◌⊎◌, inl, inr, Bool, true, false, cond, List, [], ◌∷◌}
use Rattle.std.proofs.Common.{◌++◌, length, get_or, set, None, Some, refl, sym, ap, subst, ◌∙◌, arith}
use Rattle.std.proofs.Common.{true≢false}
use Rattle.std.specs.Prelude.{Contains, slice_get}
use Rattle.std.specs.Ordering.{is_eq}
use Rattle.std.specs.Cmp.{Equal-is}
use Rattle.std.proofs.lemmas.Bool.{cases_eq}
use Rattle.std.proofs.lemmas.List.{get_or-set_same, get_or-set_other, length-set}
use Rattle.std.proofs.lemmas.List.Elements.{Contains-push_cases}
use Rattle.std.proofs.lemmas.Option.{none-some, same_Some, slice_get-get_or, slice_get_within}
use Rattle.std.proofs.lemmas.Option.{get_or_from_slice_get}
use Rattle.tv_lemmas.proofs.Lists.{found_at, pushed_at, set_there, pushed_there, still_at}
use Rattle.tv_kleene.specs.Kleene.{join_of}
use Rattle.tv_kleene.proofs.Lattice.{join-same}
use Rattle.tv_model.proofs.Lists.{slice_get-contains}
use Rattle.tv_struct.specs.Order.{structure_cmp}
use Rattle.tv_structure_form.specs.StructureForm.{StructureForm, IsStructure, value_at, unmarked}
use Rattle.tv_struct.proofs.OrderLaws.{structure_cmp-Equal, Equal-from_unmarked}
use Rattle.tv_structure_form.proofs.StructureLaws.{same_structure}
use Rattle.tv_join.specs.Keyed.{Counts, SameKey, IsSkeleton}
use Rattle.tv_join.specs.Pairwise.{IsJoined}
use Rattle.tv_join.specs.Members.{MembersForm, place_in, IsIndexed, IsKnown, IsRaised}

-- ---- keys

pub key-sym : (counted : List Bool) (s t : StructureForm) → SameKey counted s t → SameKey counted t s
key-sym counted s t key = record {
  size = sym key.size;
  over = sym key.over;
  values = λ pred does tuple. sym (key.values pred does tuple);
}

pub skeleton-moves : (counted : List Bool) (r t q : StructureForm) → SameKey counted t r → IsSkeleton counted r q
    → IsSkeleton counted t q
skeleton-moves counted r t q key sk = record {
  is = sk.is;
  size = key.size ∙ sk.size;
  over = key.over ∙ sk.over;
  values = λ pred does tuple. key.values pred does tuple ∙ sk.values pred does tuple;
  others = sk.others;
  summaries = sk.summaries;
  unmarked = sk.unmarked;
}

pub skeleton-key : (counted : List Bool) (r t q : StructureForm) → IsSkeleton counted r q → IsSkeleton counted t q
    → SameKey counted r t
skeleton-key counted r t q a b = record {
  size = a.size ∙ sym b.size;
  over = a.over ∙ sym b.over;
  values = λ pred does tuple. a.values pred does tuple ∙ sym (b.values pred does tuple);
}

skeleton-once : (counted : List Bool) (r p q : StructureForm) → IsSkeleton counted r p → IsSkeleton counted r q → p ≡ q
skeleton-once counted r p q a b =
    same_structure p q a.is b.is (sym a.size ∙ b.size) (sym a.over ∙ b.over)
    (λ pred tuple has. at pred tuple (get_or counted pred false) refl)
    (λ u lt. a.summaries u ∙ sym (b.summaries u)) (a.unmarked ∙ sym b.unmarked)
  where
    at : (pred : ℕ) (tuple : List ℕ) (flag : Bool) → get_or counted pred false ≡ flag
        → value_at p pred tuple ≡ value_at q pred tuple
    at pred tuple true e = sym (a.values pred e tuple) ∙ b.values pred e tuple
    at pred tuple false e =
        let doesnt : ¬ Counts counted pred = λ does. true≢false (sym does ∙ e)
        in a.others pred doesnt tuple ∙ sym (b.others pred doesnt tuple)

-- skeletons that compare as equal are the same
equal-same : (counted : List Bool) (r t p q : StructureForm) → IsSkeleton counted r p → IsSkeleton counted t q
    → is_eq (structure_cmp p q) ≡ true → p ≡ q
equal-same counted r t p q a b e =
    let same : unmarked p ≡ unmarked q = structure_cmp-Equal p q ((Equal-is (structure_cmp p q)).0 e)
    in λ i. record {
      size = (same i).size;
      summaries = (same i).summaries;
      planes = (same i).planes;
      fresh = (a.unmarked ∙ sym b.unmarked) i;
    }

joined-key : (counted : List Bool) (s before after : StructureForm) → SameKey counted s before → IsJoined s before after
    → SameKey counted after before
joined-key counted s before after key joined = record {
  size = joined.size ∙ key.size;
  over = joined.over ∙ key.over;
  values = λ pred does tuple.
      joined.values pred tuple ∙ ap (λ k. join_of k (value_at before pred tuple)) (key.values pred does tuple)
      ∙ join-same (value_at before pred tuple);
}

-- ---- places in lists

pub set-at : {X : Type 0} (xs : List X) (place : ℕ) (y x : X) (i : ℕ) → place < length xs
    → slice_get (set xs place y) i ≡ Some x
    → ((i ≡ place) × (y ≡ x)) ⊎ ((i ≢ place) × (slice_get xs i ≡ Some x))
set-at xs place y x i within at = by (cases_eq i place)
  where
    by : (i ≡ place) ⊎ (i ≢ place) → ((i ≡ place) × (y ≡ x)) ⊎ ((i ≢ place) × (slice_get xs i ≡ Some x))
    by (inl same) =
        inl (
          same,
          sym (get_or-set_same xs place y x within)
              ∙ ap (λ n. get_or (set xs place y) n x) (sym same) ∙ get_or_from_slice_get (set xs place y) i x x at,
        )
    by (inr apart) =
        inr (
          apart,
          slice_get-get_or xs i x (omega (arith, slice_get_within (set xs place y) i x at, length-set xs place y))
              ∙ ap Some (sym (get_or-set_other xs place i y x apart) ∙ get_or_from_slice_get (set xs place y) i x x at),
        )

-- what stands elsewhere stays
pub set-keeps : {X : Type 0} (xs : List X) (place : ℕ) (y x : X) (i : ℕ) → i ≢ place → slice_get xs i ≡ Some x
    → slice_get (set xs place y) i ≡ Some x
set-keeps xs place y x i apart at =
    slice_get-get_or (set xs place y) i x (omega (arith, slice_get_within xs i x at, length-set xs place y))
    ∙ ap Some (get_or-set_other xs place i y x apart ∙ get_or_from_slice_get xs i x x at)

-- ---- the index

pub indexed-none : (counted : List Bool) (m : MembersForm) → m.structures ≡ [] → ((q : StructureForm) → place_in m.places q ≡ None)
    → IsIndexed counted m
indexed-none counted m none places = record {
  is = λ t has. absurd (nothing t has);
  unmarked = λ t has. absurd (nothing t has);
  noted = λ i t q at sk. absurd (nothing t (slice_get-contains m.structures i t at));
  only = λ i r q sk at. absurd (none-some i (sym (places q) ∙ at));
}
  where
    nothing : (t : StructureForm) → Contains m.structures t → ⊥
    nothing t (i, lt, at) = omega (arith, lt, ap length none)

module _ (counted : List Bool) (m new : MembersForm) (all : IsIndexed counted m) where
  -- no structure has the key of s
  pub not-there : (s key : StructureForm) → IsSkeleton counted s key → place_in m.places key ≡ None
      → (t : StructureForm) → Contains m.structures t → ¬ SameKey counted s t
  not-there s key sk none t has same =
      let here = found_at m.structures t has
      in none-some here.0 (sym none ∙ all.noted here.0 t key here.1
      (skeleton-moves counted s t key (key-sym counted s t same) sk))

  module _ (s key : StructureForm) (sk : IsSkeleton counted s key) (is : IsStructure s) (mark : s.fresh ≡ None)
      (none : place_in m.places key ≡ None) (pushed : new.structures ≡ m.structures ++ s ∷ [])
      (places : (q : StructureForm)
      → place_in new.places q ≡ cond (is_eq (structure_cmp key q)) (Some (length m.structures)) (place_in m.places q)) where
    place-other : (q : StructureForm) → is_eq (structure_cmp key q) ≡ false → place_in new.places q ≡ place_in m.places q
    place-other q e = places q ∙ ap (λ b. cond b (Some (length m.structures)) (place_in m.places q)) e

    place-here : (q : StructureForm) → is_eq (structure_cmp key q) ≡ true → place_in new.places q ≡ Some (length m.structures)
    place-here q e = places q ∙ ap (λ b. cond b (Some (length m.structures)) (place_in m.places q)) e

    noted-more : (i : ℕ) (t q : StructureForm) → IsSkeleton counted t q
        → (slice_get m.structures i ≡ Some t) ⊎ ((i ≡ length m.structures) × (s ≡ t)) → place_in new.places q ≡ Some i
    noted-more i t q skq (inl at) = by (is_eq (structure_cmp key q)) refl
      where
        by : (b : Bool) → is_eq (structure_cmp key q) ≡ b → place_in new.places q ≡ Some i
        by false e = place-other q e ∙ all.noted i t q at skq
        by true e =
            let same : key ≡ q = equal-same counted s t key q sk skq e
            in absurd (none-some i (sym none ∙ ap (place_in m.places) same ∙ all.noted i t q at skq))
    noted-more i t q skq (inr (last, same)) =
        let one : key ≡ q = skeleton-once counted t key q (subst (λ x. IsSkeleton counted x key) same sk) skq
        in place-here q ((Equal-is (structure_cmp key q)).1 (Equal-from_unmarked key q (ap unmarked one)))
        ∙ ap Some (sym last)

    only-more : (i : ℕ) (r q : StructureForm) → IsSkeleton counted r q → place_in new.places q ≡ Some i
        → (t : StructureForm) × (slice_get new.structures i ≡ Some t) × SameKey counted r t
    only-more i r q skq at = by (is_eq (structure_cmp key q)) refl
      where
        by : (b : Bool) → is_eq (structure_cmp key q) ≡ b
            → (t : StructureForm) × (slice_get new.structures i ≡ Some t) × SameKey counted r t
        by false e =
            let old = all.only i r q skq (sym (place-other q e) ∙ at)
            in (old.0, ap (λ xs. slice_get xs i) pushed ∙ still_at m.structures (s ∷ []) i old.0 old.1, old.2)
        by true e =
            let same : key ≡ q = equal-same counted s r key q sk skq e
            in let last : length m.structures ≡ i = same_Some (length m.structures) i (sym (place-here q e) ∙ at)
            in (
              s,
              ap (λ xs. slice_get xs i) pushed
                  ∙ subst (λ n. slice_get (m.structures ++ s ∷ []) n ≡ Some s) last (pushed_there m.structures s),
              skeleton-key counted r s q skq (subst (IsSkeleton counted s) same sk),
            )

    pub indexed-more : IsIndexed counted new
    indexed-more = record {
      is = λ t has. is-at t (Contains-push_cases m.structures s t (subst (λ xs. Contains xs t) pushed has));
      unmarked = λ t has. mark-at t (Contains-push_cases m.structures s t (subst (λ xs. Contains xs t) pushed has));
      noted = λ i t q at skq. noted-more i t q skq (pushed_at m.structures s t i (ap (λ xs. slice_get xs i) (sym pushed) ∙ at));
      only = only-more;
    }
      where
        is-at : (t : StructureForm) → Contains m.structures t ⊎ (s ≡ t) → IsStructure t
        is-at t (inl has) = all.is t has
        is-at t (inr e) = subst IsStructure e is

        mark-at : (t : StructureForm) → Contains m.structures t ⊎ (s ≡ t) → t.fresh ≡ None
        mark-at t (inl has) = all.unmarked t has
        mark-at t (inr e) = subst (λ (x : StructureForm). x.fresh ≡ None) e mark

  module _ (s before after : StructureForm) (place : ℕ) (at-place : slice_get m.structures place ≡ Some before)
      (key : SameKey counted s before) (joined : IsJoined s before after)
      (raised : new.structures ≡ set m.structures place after)
      (places : (q : StructureForm) → place_in new.places q ≡ place_in m.places q) where
    within : place < length m.structures
    within = slice_get_within m.structures place before at-place

    moved : SameKey counted after before
    moved = joined-key counted s before after key joined

    cases-at : (i : ℕ) (t : StructureForm) → slice_get new.structures i ≡ Some t
        → ((i ≡ place) × (after ≡ t)) ⊎ ((i ≢ place) × (slice_get m.structures i ≡ Some t))
    cases-at i t at = set-at m.structures place after t i within (ap (λ xs. slice_get xs i) (sym raised) ∙ at)

    noted-set : (i : ℕ) (t q : StructureForm) → IsSkeleton counted t q
        → ((i ≡ place) × (after ≡ t)) ⊎ ((i ≢ place) × (slice_get m.structures i ≡ Some t)) → place_in new.places q ≡ Some i
    noted-set i t q skq (inl (same, e)) =
        places q ∙ all.noted place before q at-place (skeleton-moves counted after before q (key-sym counted after before moved)
        (subst (λ x. IsSkeleton counted x q) (sym e) skq)) ∙ ap Some (sym same)
    noted-set i t q skq (inr (apart, at)) = places q ∙ all.noted i t q at skq

    only-set : (i : ℕ) (r : StructureForm) → (i ≡ place) ⊎ (i ≢ place)
        → (t : StructureForm) × (slice_get m.structures i ≡ Some t) × SameKey counted r t
        → (t : StructureForm) × (slice_get new.structures i ≡ Some t) × SameKey counted r t
    only-set i r (inl same) (t, at, k) =
        let e : before ≡ t = same_Some before t (sym at-place ∙ ap (slice_get m.structures) (sym same) ∙ at)
        in let k' : SameKey counted r before = subst (SameKey counted r) (sym e) k
        in (
          after,
          ap (λ xs. slice_get xs i) raised
              ∙ subst (λ n. slice_get (set m.structures place after) n ≡ Some after) (sym same) (set_there m.structures place after within),
          record {
            size = k'.size ∙ sym moved.size;
            over = k'.over ∙ sym moved.over;
            values = λ pred does tuple. k'.values pred does tuple ∙ sym (moved.values pred does tuple);
          },
        )
    only-set i r (inr apart) (t, at, k) =
        (t, ap (λ xs. slice_get xs i) raised ∙ set-keeps m.structures place after t i apart at, k)

    pub indexed-set : IsIndexed counted new
    indexed-set = record {
      is = λ t has. let here = found_at new.structures t has in is-at t (cases-at here.0 t here.1);
      unmarked = λ t has. let here = found_at new.structures t has in mark-at t (cases-at here.0 t here.1);
      noted = λ i t q at skq. noted-set i t q skq (cases-at i t at);
      only = λ i r q skq at. only-set i r (cases_eq i place) (all.only i r q skq (sym (places q) ∙ at));
    }
      where
        is-at : {i : ℕ} (t : StructureForm)
            → ((i ≡ place) × (after ≡ t)) ⊎ ((i ≢ place) × (slice_get m.structures i ≡ Some t)) → IsStructure t
        is-at t (inl (same, e)) = subst IsStructure e joined.is
        is-at {i} t (inr (apart, at)) = all.is t (slice_get-contains m.structures i t at)

        mark-at : {i : ℕ} (t : StructureForm)
            → ((i ≡ place) × (after ≡ t)) ⊎ ((i ≢ place) × (slice_get m.structures i ≡ Some t)) → t.fresh ≡ None
        mark-at t (inl (same, e)) = subst (λ (x : StructureForm). x.fresh ≡ None) e joined.unmarked
        mark-at {i} t (inr (apart, at)) = all.unmarked t (slice_get-contains m.structures i t at)

-- ---- one structure is put

same-unmarked : (a b : StructureForm) → unmarked a ≡ unmarked b → a.fresh ≡ None → b.fresh ≡ None → a ≡ b
same-unmarked a b same none_a none_b = λ i. record {
  size = (same i).size;
  summaries = (same i).summaries;
  planes = (same i).planes;
  fresh = (none_a ∙ sym none_b) i;
}

module _ (counted : List Bool) (m : MembersForm) (all : IsIndexed counted m) (s t read joined other : StructureForm) (place : ℕ)
    (at : slice_get m.structures place ≡ Some t) (key : SameKey counted s t) (is_read : read ≡ t) (is_other : other ≡ t)
    (join : IsJoined s read joined) where
  join_t : IsJoined s t joined
  join_t = subst (λ x. IsJoined s x joined) is_read join

  pub put-known : unmarked joined ≡ unmarked other → IsKnown counted m.structures s m.structures
  put-known same =
      let e : joined ≡ t = same-unmarked joined t (same ∙ ap unmarked is_other) join_t.unmarked
      (all.unmarked t (slice_get-contains m.structures place t at))
      in record {
        at = t;
        has = slice_get-contains m.structures place t at;
        key = key;
        joined = subst (IsJoined s t) e join_t;
        same = refl;
      }

  pub put-raised : (¬ (unmarked joined ≡ unmarked other)) → (new : List StructureForm) → new ≡ set m.structures place joined
      → IsRaised counted m.structures s new place
  put-raised apart new e = record {
    before = t;
    after = joined;
    at = at;
    key = key;
    joined = join_t;
    changed = λ same. apart (ap unmarked (same ∙ sym is_other));
    set = e;
  }

  pub put-indexed : (new : MembersForm) → new.structures ≡ set m.structures place joined
      → ((q : StructureForm) → place_in new.places q ≡ place_in m.places q) → IsIndexed counted new
  put-indexed new raised places = indexed-set counted m new all s t joined place at key join_t raised places
