-- One structure after the other is joined into what is listed.
use Rattle.std.proofs.Common.{ℕ, ◌≡◌, ◌≢◌, ◌⊎◌, inl, inr, List, [], ◌∷◌, ◌++◌, length, set, Some, refl, sym}
use Rattle.std.proofs.Common.{ap, subst, ◌∙◌, arith}
use Rattle.std.specs.Prelude.{Contains, slice_get, ◌↔◌}
use Rattle.std.proofs.lemmas.Bool.{cases_eq}
use Rattle.std.proofs.lemmas.Option.{same_Some, slice_get_within}
use Rattle.tv_lemmas.proofs.Lists.{found_at, pushed_at, set_there, pushed_there, still_at}
use Rattle.tv_model.specs.Program.{ProgramForm}
use Rattle.tv_model.proofs.Lists.{slice_get-contains}
use Rattle.tv_structure_form.specs.StructureForm.{StructureForm}
use Rattle.tv_join.specs.Keyed.{SameKey}
use Rattle.tv_join.specs.Pairwise.{IsUnder, IsJoined}
use Rattle.tv_join.specs.Members.{Puts}
use Rattle.tv_join.specs.declared.members.Put.{Put}
use Rattle.tv_join.specs.declared.members.Put.TheVariants.{Known, Raised, Added}
use Rattle.tv_join.proofs.Indexing.{set-at}
use Rattle.tv_join.proofs.Indexing.{set-keeps}
use Rattle.tv_join.specs.Flags.{key_flags, IsPlain}
use Rattle.tv_join.specs.Keys.{Key, key_of, IsJoinOf, HasKey, IsJoinByKey}
use Rattle.tv_join.specs.Listed.{AreJoins}
use Rattle.tv_join.proofs.KeyLaws.{key-from_same, same-from_key}
use Rattle.tv_join.proofs.JoinLaws.{join-one, join-like, join-more, join-absorbs, join-above, join-key}
use Rattle.tv_join.proofs.JoinLaws.{join-once, join-plain}

-- ---- what is known of joins by key

pub joins-like : (p : ProgramForm) (X Y : StructureForm → Type 0) (listed : List StructureForm)
    → ((s : StructureForm) → X s → Y s) → ((s : StructureForm) → Y s → X s) → AreJoins p X listed → AreJoins p Y listed
joins-like p X Y listed to from are = record {
  covered = λ s y. are.covered s (from s y);
  joins = λ i t at.
      join-like p (HasKey p X (key_of p t)) (HasKey p Y (key_of p t)) t (λ s (x, k). (to s x, k)) (λ s (y, k). (from s y, k))
      (are.joins i t at);
  used = λ i t at. let has = are.used i t at in (has.0, (to has.0 has.1.0, has.1.1));
  own = are.own;
}

-- nothing was met
pub joins-none : (p : ProgramForm) (X : StructureForm → Type 0) → ((s : StructureForm) → X s → ⊥) → AreJoins p X []
joins-none p X none = record {
  covered = λ s x. absurd (none s x);
  joins = λ i t at. absurd (omega (arith, slice_get_within [] i t at));
  used = λ i t at. absurd (omega (arith, slice_get_within [] i t at));
  own = λ i j s t at. absurd (omega (arith, slice_get_within [] i s at));
}

-- what is listed is listed once, so these are the joins of themselves
pub joins-own : (p : ProgramForm) (listed : List StructureForm) → ((s : StructureForm) → Contains listed s → IsPlain p s)
    → ((i j : ℕ) (s t : StructureForm) → slice_get listed i ≡ Some s → slice_get listed j ≡ Some t
    → key_of p s ≡ key_of p t → i ≡ j)
    → AreJoins p (Contains listed) listed
joins-own p listed plain own = record {
  covered = λ s has. let here = found_at listed s has in (here.0, s, here.1, refl);
  joins = λ i t at.
      join-one p (HasKey p (Contains listed) (key_of p t)) t (slice_get-contains listed i t at, refl)
      (λ s (has, k).
      let here = found_at listed s has
      in same_Some s t (sym here.1 ∙ ap (slice_get listed) (own here.0 i s t here.1 at k) ∙ at))
      (plain t (slice_get-contains listed i t at));
  used = λ i t at. (t, (slice_get-contains listed i t at, refl));
  own = own;
}

-- structures that lie under others of their key add nothing
pub joins-absorb : (p : ProgramForm) (X Y : StructureForm → Type 0) (listed : List StructureForm)
    → ((y : StructureForm) → Y y → (x : StructureForm) × X x × (key_of p y ≡ key_of p x) × IsUnder y x)
    → AreJoins p X listed → AreJoins p (λ s. X s ⊎ Y s) listed
joins-absorb p X Y listed under are = record {
  covered = covered;
  joins = λ i t at.
      join-like p (λ s. HasKey p X (key_of p t) s ⊎ HasKey p Y (key_of p t) s) (HasKey p (λ s. X s ⊎ Y s) (key_of p t)) t
      both apart
      (join-absorbs p (HasKey p X (key_of p t)) (HasKey p Y (key_of p t)) t
      (λ y (has, k). let up = under y has in (up.0, (up.1, sym up.2 ∙ k), up.3)) (are.joins i t at));
  used = λ i t at. let has = are.used i t at in (has.0, (inl has.1.0, has.1.1));
  own = are.own;
}
  where
    covered : (s : StructureForm) → X s ⊎ Y s
        → (i : ℕ) × (t : StructureForm) × (slice_get listed i ≡ Some t) × (key_of p s ≡ key_of p t)
    covered s (inl x) = are.covered s x
    covered s (inr y) =
        let up = under s y
        in let at = are.covered up.0 up.1
        in (at.0, at.1, at.2, up.2 ∙ at.3)

    both : {key : Key} (s : StructureForm) → HasKey p X key s ⊎ HasKey p Y key s → HasKey p (λ r. X r ⊎ Y r) key s
    both s (inl (x, k)) = (inl x, k)
    both s (inr (y, k)) = (inr y, k)

    apart : {key : Key} (s : StructureForm) → HasKey p (λ r. X r ⊎ Y r) key s → HasKey p X key s ⊎ HasKey p Y key s
    apart s (inl x, k) = inl (x, k)
    apart s (inr y, k) = inr (y, k)

module _ (p : ProgramForm) (X : StructureForm → Type 0) (plain : (s : StructureForm) → X s → IsPlain p s)
    (listed : List StructureForm) (are : AreJoins p X listed) where
  -- what was met lies under the listed structure of its key
  pub joins-above : (s : StructureForm) → X s
      → (t : StructureForm) × Contains listed t × (key_of p s ≡ key_of p t) × IsUnder s t
  joins-above s x =
      let at = are.covered s x
      in (
        at.1,
        slice_get-contains listed at.0 at.1 at.2,
        at.3,
        join-above p (HasKey p X (key_of p at.1)) at.1 s (are.joins at.0 at.1 at.2) (x, at.3) (plain s x),
      )

  pub joins-plain : (t : StructureForm) → Contains listed t → IsPlain p t
  joins-plain t has =
      let here = found_at listed t has
      in join-plain p (HasKey p X (key_of p t)) t (are.joins here.0 t here.1)

-- what is listed is exactly the joins by key
pub joins-exact : (p : ProgramForm) (X : StructureForm → Type 0) (listed : List StructureForm) → AreJoins p X listed
    → (t : StructureForm) → Contains listed t ↔ IsJoinByKey p X t
joins-exact p X listed are t = (
  λ has.
      let here = found_at listed t has
      in (key_of p t, are.used here.0 t here.1, are.joins here.0 t here.1),
  λ (key, (s, (x, k)), join).
      let at = are.covered s x
      in let same : key_of p at.1 ≡ key = sym at.3 ∙ k
      in let other : IsJoinOf p (HasKey p X key) at.1
      = subst (λ q. IsJoinOf p (HasKey p X q) at.1) same (are.joins at.0 at.1 at.2)
      in subst (Contains listed) (join-once p (HasKey p X key) at.1 t s (x, k) other join)
      (slice_get-contains listed at.0 at.1 at.2),
)

-- ---- one structure is put

-- the structure at one place changes, and the others stay
pub record ChangesAt (old new : List StructureForm) (place : ℕ) (before after : StructureForm) : Type 0 where
  pub at : slice_get old place ≡ Some before
  pub there : slice_get new place ≡ Some after
  pub back : (i : ℕ) (t : StructureForm) → slice_get new i ≡ Some t
      → ((i ≡ place) × (after ≡ t)) ⊎ ((i ≢ place) × (slice_get old i ≡ Some t))
  pub keeps : (i : ℕ) (t : StructureForm) → i ≢ place → slice_get old i ≡ Some t → slice_get new i ≡ Some t

pub changes-none : (old : List StructureForm) (place : ℕ) (t : StructureForm) → slice_get old place ≡ Some t
    → ChangesAt old old place t t
changes-none old place t at = record {
  at = at;
  there = at;
  back = λ i s is. by i s is (cases_eq i place);
  keeps = λ i s apart is. is;
}
  where
    by : (i : ℕ) (s : StructureForm) → slice_get old i ≡ Some s → (i ≡ place) ⊎ (i ≢ place)
        → ((i ≡ place) × (t ≡ s)) ⊎ ((i ≢ place) × (slice_get old i ≡ Some s))
    by i s is (inl same) = inl (same, same_Some t s (sym at ∙ ap (slice_get old) (sym same) ∙ is))
    by i s is (inr apart) = inr (apart, is)

pub changes-set : (old : List StructureForm) (place : ℕ) (before after : StructureForm) → slice_get old place ≡ Some before
    → ChangesAt old (set old place after) place before after
changes-set old place before after at =
    let within = slice_get_within old place before at
    in record {
      at = at;
      there = set_there old place after within;
      back = λ i t is. set-at old place after t i within is;
      keeps = λ i t apart is. set-keeps old place after t i apart is;
    }

module _ (p : ProgramForm) (X : StructureForm → Type 0) (plain : (s : StructureForm) → X s → IsPlain p s)
    (old : List StructureForm) (are : AreJoins p X old) (r : StructureForm) (plain_r : IsPlain p r) where
  abbrev More : StructureForm → Type 0
  More s = X s ⊎ (s ≡ r)

  -- where no structure of this key is put, nothing changes
  unlike : (key : Key) (t : StructureForm) → (key_of p r ≡ key → ⊥) → IsJoinOf p (HasKey p X key) t
      → IsJoinOf p (HasKey p More key) t
  unlike key t apart = join-like p (HasKey p X key) (HasKey p More key) t (λ s (x, k). (inl x, k)) (λ s has. by s has)
    where
      by : (s : StructureForm) → HasKey p More key s → HasKey p X key s
      by s (inl x, k) = (x, k)
      by s (inr e, k) = absurd (apart (ap (key_of p) (sym e) ∙ k))

  -- and where it is put, it is joined
  alike : (key : Key) (t after : StructureForm) → key_of p r ≡ key → r.size ≡ t.size → IsJoined r t after
      → IsJoinOf p (HasKey p X key) t → IsJoinOf p (HasKey p More key) after
  alike key t after same size joined join =
      join-like p (λ s. HasKey p X key s ⊎ (s ≡ r)) (HasKey p More key) after (λ s has. to s has) (λ s has. from s has)
      (join-more p (HasKey p X key) t r after plain_r size joined join)
    where
      to : (s : StructureForm) → HasKey p X key s ⊎ (s ≡ r) → HasKey p More key s
      to s (inl (x, k)) = (inl x, k)
      to s (inr e) = (inr e, ap (key_of p) e ∙ same)

      from : (s : StructureForm) → HasKey p More key s → HasKey p X key s ⊎ (s ≡ r)
      from s (inl x, k) = inl (x, k)
      from s (inr e, k) = inr e

  module _ (new : List StructureForm) (place : ℕ) (before after : StructureForm)
      (changes : ChangesAt old new place before after) (key : SameKey (key_flags p) r before)
      (joined : IsJoined r before after) where
    same-key : key_of p r ≡ key_of p before
    same-key = key-from_same p r before key

    raised : IsJoinOf p (HasKey p More (key_of p before)) after
    raised = alike (key_of p before) before after same-key key.size joined (are.joins place before changes.at)

    more-plain : (s : StructureForm) → More s → IsPlain p s
    more-plain s (inl x) = plain s x
    more-plain s (inr e) = subst (IsPlain p) (sym e) plain_r

    after-key : key_of p after ≡ key_of p before
    after-key =
        let has = are.used place before changes.at
        in join-key p More (key_of p before) after has.0 more-plain (inl has.1.0, has.1.1) raised

    old-key : (i : ℕ) (t : StructureForm) → ((i ≡ place) × (after ≡ t)) ⊎ ((i ≢ place) × (slice_get old i ≡ Some t))
        → (s : StructureForm) × (slice_get old i ≡ Some s) × (key_of p t ≡ key_of p s)
    old-key i t (inl (same, e)) =
        (before, ap (slice_get old) same ∙ changes.at, ap (key_of p) (sym e) ∙ after-key)
    old-key i t (inr (apart, at)) = (t, at, refl)

    joins-changed : AreJoins p More new
    joins-changed = record {
      covered = covered;
      joins = λ i t at. joins i t (changes.back i t at);
      used = λ i t at. used i t (changes.back i t at);
      own = λ i j s t at_i at_j k.
          let a = old-key i s (changes.back i s at_i)
          in let b = old-key j t (changes.back j t at_j)
          in are.own i j a.0 b.0 a.1 b.1 (sym a.2 ∙ k ∙ b.2);
    }
      where
        at-place : (s : StructureForm) → key_of p s ≡ key_of p before
            → (i : ℕ) × (t : StructureForm) × (slice_get new i ≡ Some t) × (key_of p s ≡ key_of p t)
        at-place s k = (place, after, changes.there, k ∙ sym after-key)

        found : (s : StructureForm)
            → (i : ℕ) × (t : StructureForm) × (slice_get old i ≡ Some t) × (key_of p s ≡ key_of p t)
            → (i : ℕ) × (t : StructureForm) × (slice_get new i ≡ Some t) × (key_of p s ≡ key_of p t)
        found s (i, t, at, k) = by (cases_eq i place)
          where
            by : (i ≡ place) ⊎ (i ≢ place)
                → (i : ℕ) × (t : StructureForm) × (slice_get new i ≡ Some t) × (key_of p s ≡ key_of p t)
            by (inl same) =
                at-place s (k ∙ ap (key_of p) (same_Some t before (sym at ∙ ap (slice_get old) same ∙ changes.at)))
            by (inr apart) = (i, t, changes.keeps i t apart at, k)

        covered : (s : StructureForm) → More s
            → (i : ℕ) × (t : StructureForm) × (slice_get new i ≡ Some t) × (key_of p s ≡ key_of p t)
        covered s (inl x) = found s (are.covered s x)
        covered s (inr e) = at-place s (ap (key_of p) e ∙ same-key)

        joins : (i : ℕ) (t : StructureForm) → ((i ≡ place) × (after ≡ t)) ⊎ ((i ≢ place) × (slice_get old i ≡ Some t))
            → IsJoinOf p (HasKey p More (key_of p t)) t
        joins i t (inl (same, e)) =
            subst (λ y. IsJoinOf p (HasKey p More (key_of p y)) y) e
            (subst (λ k. IsJoinOf p (HasKey p More k) after) (sym after-key) raised)
        joins i t (inr (apart, at)) =
            unlike (key_of p t) t (λ k. apart (are.own i place t before at changes.at (sym k ∙ same-key))) (are.joins i t at)

        used : (i : ℕ) (t : StructureForm) → ((i ≡ place) × (after ≡ t)) ⊎ ((i ≢ place) × (slice_get old i ≡ Some t))
            → (s : StructureForm) × HasKey p More (key_of p t) s
        used i t (inl (same, e)) = (r, (inr refl, same-key ∙ sym after-key ∙ ap (key_of p) e))
        used i t (inr (apart, at)) = let has = are.used i t at in (has.0, (inl has.1.0, has.1.1))

  module _ (listed-plain : (t : StructureForm) → Contains old t → IsPlain p t)
      (none : (t : StructureForm) → Contains old t → ¬ SameKey (key_flags p) r t) where
    no-key : (i : ℕ) (t : StructureForm) → slice_get old i ≡ Some t → key_of p r ≡ key_of p t → ⊥
    no-key i t at k =
        let has = slice_get-contains old i t at
        in none t has (same-from_key p r t plain_r (listed-plain t has) k)

    joins-pushed : AreJoins p More (old ++ r ∷ [])
    joins-pushed = record {
      covered = covered;
      joins = λ i t at. joins i t (pushed_at old r t i at);
      used = λ i t at. used i t (pushed_at old r t i at);
      own = λ i j s t at_i at_j k. own i j s t (pushed_at old r s i at_i) (pushed_at old r t j at_j) k;
    }
      where
        covered : (s : StructureForm) → More s
            → (i : ℕ) × (t : StructureForm) × (slice_get (old ++ r ∷ []) i ≡ Some t) × (key_of p s ≡ key_of p t)
        covered s (inl x) = let at = are.covered s x in (at.0, at.1, still_at old (r ∷ []) at.0 at.1 at.2, at.3)
        covered s (inr e) = (length old, r, pushed_there old r, ap (key_of p) e)

        only-r : (s : StructureForm) → HasKey p More (key_of p r) s → s ≡ r
        only-r s (inl x, k) = let at = are.covered s x in absurd (no-key at.0 at.1 at.2 (sym k ∙ at.3))
        only-r s (inr e, k) = e

        joins : (i : ℕ) (t : StructureForm) → (slice_get old i ≡ Some t) ⊎ ((i ≡ length old) × (r ≡ t))
            → IsJoinOf p (HasKey p More (key_of p t)) t
        joins i t (inl at) = unlike (key_of p t) t (no-key i t at) (are.joins i t at)
        joins i t (inr (last, e)) =
            subst (λ y. IsJoinOf p (HasKey p More (key_of p y)) y) e
            (join-one p (HasKey p More (key_of p r)) r (inr refl, refl) only-r plain_r)

        used : (i : ℕ) (t : StructureForm) → (slice_get old i ≡ Some t) ⊎ ((i ≡ length old) × (r ≡ t))
            → (s : StructureForm) × HasKey p More (key_of p t) s
        used i t (inl at) = let has = are.used i t at in (has.0, (inl has.1.0, has.1.1))
        used i t (inr (last, e)) = (r, (inr refl, ap (key_of p) e))

        own : (i j : ℕ) (s t : StructureForm) → (slice_get old i ≡ Some s) ⊎ ((i ≡ length old) × (r ≡ s))
            → (slice_get old j ≡ Some t) ⊎ ((j ≡ length old) × (r ≡ t)) → key_of p s ≡ key_of p t → i ≡ j
        own i j s t (inl a) (inl b) k = are.own i j s t a b k
        own i j s t (inl a) (inr (last, e)) k = absurd (no-key i s a (ap (key_of p) e ∙ sym k))
        own i j s t (inr (last, e)) (inl b) k = absurd (no-key j t b (ap (key_of p) e ∙ k))
        own i j s t (inr (last, e)) (inr (last', e')) k = last ∙ sym last'

  -- after a structure was put, what is listed is the joins with it
  pub joins-put : (new : List StructureForm) (put : Put) → ((t : StructureForm) → Contains old t → IsPlain p t)
      → Puts (key_flags p) old r new put → AreJoins p More new
  joins-put new Known listed-plain known =
      let here = found_at old known.at known.has
      in subst (AreJoins p More) (sym known.same)
      (joins-changed old here.0 known.at known.at (changes-none old here.0 known.at here.1) known.key known.joined)
  joins-put new (Raised place) listed-plain raise =
      subst (AreJoins p More) (sym raise.set)
      (joins-changed (set old place raise.after) place raise.before raise.after
      (changes-set old place raise.before raise.after raise.at) raise.key raise.joined)
  joins-put new Added listed-plain add = subst (AreJoins p More) (sym add.pushed) (joins-pushed listed-plain add.none)
