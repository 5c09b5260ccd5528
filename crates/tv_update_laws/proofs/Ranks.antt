-- Defined predicates: those that a step doesn't change, and, by induction on ranks, those that it does.
use Rattle.std.proofs.Common.{ℕ, ◌≡◌, ◌<◌, ◌⊎◌, ◌↔◌, Bool, true, false, List, Option, None, Some, slice_get}
use Rattle.std.proofs.Common.{inl, inr, ⊎_elim, refl, sym, subst, ◌∙◌, All, Contains, IsTrue, arith, zero}
use Rattle.std.proofs.Common.{suc}
use Rattle.std.proofs.lemmas.Bool.{false≢true}
use Rattle.tv_model.proofs.Truths.{Truth-local}
use Rattle.tv_model.specs.Form.{Form, Mentions}
use Rattle.tv_model.specs.Heap.{Heap, Holds, IsTuple}
use Rattle.tv_model.specs.Program.{PredForm, KindForm, KCore, KDefined, UpdateForm}
use Rattle.tv_model.specs.Rules.{MeetsDefinition, blank}
use Rattle.tv_model.specs.Step.{update_for, FollowsUpdate}
use Rattle.tv_model.specs.Truth.{Truth, put_all}
use Rattle.tv_model.specs.Valid.{IsValid, IsKind}
use Rattle.tv_model.proofs.Programs.{pred-cases, kind-cases, holds-nothing, holds-fits}
use Rattle.tv_update_laws.specs.Applied.{used_update, kind_at, IsChanged, AreChanged}
use Rattle.tv_update_laws.proofs.Predicates.{kind-found, valid-pred}
use Rattle.tv_update_laws.proofs.Passing.{IsStill, Passing}
use Rattle.tv_update_laws.proofs.Updates.{used-core}

changed-as : (c : Passing) (changed : ℕ → Bool) → AreChanged c.p c.mode c.action changed
    → (q : ℕ) (kind : KindForm) → kind_at c.p q ≡ kind
    → (used : Option UpdateForm) → used_update c.mode kind (update_for q c.action.updates) ≡ used
    → IsTrue (changed q) ↔ IsChanged c.action changed used kind
changed-as c changed are q kind k used u =
    let At : KindForm → Type 0 =
    λ x. IsTrue (changed q)
    ↔ IsChanged c.action changed (used_update c.mode x (update_for q c.action.updates)) x
    in let With : Option UpdateForm → Type 0 = λ o. IsTrue (changed q) ↔ IsChanged c.action changed o kind
    in subst With u (subst At k (are q))

-- a core predicate without an update holds as before
pub core-kept : (c : Passing) (q : ℕ) (d : PredForm) → slice_get c.p.preds q ≡ Some d → d.kind ≡ KCore
    → update_for q c.action.updates ≡ None
    → (tuple : List ℕ) → All (Contains c.new.individuals) tuple → Holds c.new q tuple ↔ Holds c.middle q tuple
core-kept c q d found core none tuple all =
    let alike : IsTuple c.new d.arity tuple → Holds c.new q tuple ↔ Holds c.middle q tuple
    = λ fits. subst (λ o. FollowsUpdate q c.middle c.picked o tuple c.new) none
    (c.core q d found core tuple fits)
    in (
      λ h. (alike (holds-fits c.p c.new c.new_heap q d found tuple h)).0 h,
      λ h. (alike (c.fits q d found tuple h, all)).1 h,
    )

-- ---- predicates that aren't changed, where no individual comes or goes

pub record Resting (c : Passing) (changed : ℕ → Bool) : Type 0 where
  pub are : AreChanged c.p c.mode c.action changed
  pub still : IsStill c.p c.middle
  pub same : (u : ℕ) → Contains c.new.individuals u ↔ Contains c.middle.individuals u

pub rests : (c : Passing) (changed : ℕ → Bool) → Resting c changed → (valid : IsValid c.p)
    → (n q : ℕ) → valid.rank q < n → changed q ≡ false → (tuple : List ℕ)
    → Holds c.new q tuple ↔ Holds c.middle q tuple
rests c changed r valid zero q below quiet tuple = absurd (omega (arith, below))
rests c changed r valid (suc n) q below quiet tuple =
    let there : (x : ℕ) → valid.rank x < n → changed x ≡ false → (us : List ℕ)
    → Holds c.new x us ↔ Holds c.middle x us = rests c changed r valid n
    in ⊎_elim
    (λ found. by_kind there found.0 found.1 (kind-cases found.0.kind))
    (λ none. (
      λ h. absurd (holds-nothing c.p c.new c.new_heap q tuple none h),
      λ h. absurd
          (c.nothing q none tuple h),
    ))
    (pred-cases c.p q)
  where
    never : (kind : KindForm) (used : Option UpdateForm) → kind_at c.p q ≡ kind
        → used_update c.mode kind (update_for q c.action.updates) ≡ used
        → IsChanged c.action changed used kind → ⊥
    never kind used k u is = false≢true (sym quiet ∙ (changed-as c changed r.are q kind k used u).1 is)

    no_update : (kind : KindForm) → kind_at c.p q ≡ kind → (used : Option UpdateForm)
        → used_update c.mode kind (update_for q c.action.updates) ≡ used → used ≡ None
    no_update kind k None u = refl
    no_update kind k (Some w) u = absurd (never kind (Some w) k u tt)

    forth : All (Contains c.new.individuals) tuple → All (Contains c.middle.individuals) tuple
    forth all = λ i x lt. (r.same _).0 (all i x lt)

    back : All (Contains c.middle.individuals) tuple → All (Contains c.new.individuals) tuple
    back all = λ i x lt. (r.same _).1 (all i x lt)

    by_kind : ((x : ℕ) → valid.rank x < n → changed x ≡ false → (us : List ℕ)
        → Holds c.new x us ↔ Holds c.middle x us) → (d : PredForm) → slice_get c.p.preds q ≡ Some d
        → (d.kind ≡ KCore) ⊎ ((vars : List ℕ) × (body : Form) × (d.kind ≡ KDefined vars body))
        → Holds c.new q tuple ↔ Holds c.middle q tuple
    by_kind there d found (inl core) =
        let none : update_for q c.action.updates ≡ None
        = sym (used-core c.mode (update_for q c.action.updates))
        ∙ no_update KCore (kind-found c.p q d found
        ∙ core) (used_update c.mode KCore (update_for q c.action.updates)) refl
        in (
          λ h. (core-kept c q d found core none tuple
              (holds-fits c.p c.new c.new_heap q d found tuple h).1).0 h,
          λ h. (core-kept c q d found core none tuple
              (back (holds-fits c.p c.middle r.still.is_heap q d found tuple h).1)).1 h,
        )
    by_kind there d found (inr defined) =
        let k : kind_at c.p q ≡ KDefined defined.0 defined.1 = kind-found c.p q d found ∙ defined.2
        in let none : used_update c.mode (KDefined defined.0 defined.1) (update_for q c.action.updates) ≡ None
        = no_update (KDefined defined.0 defined.1) k
        (used_update c.mode (KDefined defined.0 defined.1) (update_for q c.action.updates)) refl
        in let calm : (x : ℕ) → Mentions x defined.1 → changed x ≡ false
        = λ x m. not-true (changed x) (λ t. never (KDefined defined.0 defined.1) None k none (inr (x, m, t)))
        in let less : (x : ℕ) → Mentions x defined.1 → valid.rank x < n
        = λ x m. omega (arith, below, valid.no_cycle.falls q d found defined.0 defined.1 defined.2 x m)
        in let At : Heap → KindForm → Type 0 = λ g kind. MeetsDefinition g q kind tuple
        in let is : IsKind c.p d.arity (KDefined defined.0 defined.1) =
        subst (IsKind c.p d.arity) defined.2 (valid-pred c.p valid q d found).kind
        in let local : Truth c.new (put_all blank defined.0 tuple) defined.1
        ↔ Truth c.middle (put_all blank defined.0 tuple) defined.1
        = Truth-local defined.1 c.new c.middle (put_all blank defined.0 tuple) (put_all blank defined.0 tuple)
        (record {
          individuals = r.same;
          holds = λ x m us. there x (less x m)
              (calm x m) us;
          marks = λ named. absurd (is.1.1 named);
        })
        (λ v free. refl)
        in (
          λ h. let fits : IsTuple c.new d.arity tuple = holds-fits c.p c.new c.new_heap q d found tuple h
              in let first : Holds c.new q tuple ↔ Truth c.new (put_all blank defined.0 tuple) defined.1 =
              subst (At c.new) defined.2 (c.concrete q d found tuple fits)
              in let second : Holds c.middle q tuple
              ↔ Truth c.middle (put_all blank defined.0 tuple) defined.1
              = subst (At c.middle) defined.2 (r.still.concrete q d found tuple (fits.0, forth fits.1))
              in second.1 (local.0 (first.0 h)),
          λ h. let fits : IsTuple c.middle d.arity tuple =
              holds-fits c.p c.middle r.still.is_heap q d found tuple h
              in let first : Holds c.new q tuple ↔ Truth c.new (put_all blank defined.0 tuple) defined.1
              = subst (At c.new) defined.2 (c.concrete q d found tuple (fits.0, back fits.1))
              in let second : Holds c.middle q tuple
              ↔ Truth c.middle (put_all blank defined.0 tuple) defined.1
              = subst (At c.middle) defined.2 (r.still.concrete q d found tuple fits)
              in first.1 (local.1 (second.0 h)),
        )
      where
        not-true : (b : Bool) → (b ≡ true → ⊥) → b ≡ false
        not-true true n = absurd (n refl)
        not-true false n = refl
