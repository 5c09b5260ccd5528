-- The value of a formula meets a threshold exactly where the formula is true by that threshold.
use Rattle.std.proofs.Common.{ℕ, ◌≡◌, ◌⊎◌, ◌↔◌, Bool, true, false, not, List, [], ◌∷◌, map, Some, inl, inr}
use Rattle.std.proofs.Common.{⊎_elim, refl, sym, subst, All, Contains, IsTrue}
use Rattle.std.proofs.lemmas.Bool.{cases_eq, false≢true}
use Rattle.tv_kleene.specs.declared.K3.{K3}
use Rattle.tv_kleene.specs.Kleene.{smaller_of, larger_of, negation_of}
use Rattle.tv_kleene.proofs.Thresholds.{Must, May, IsThreshold, must_threshold, may_threshold, Must-is}
use Rattle.tv_kleene.proofs.Thresholds.{May-is, May-decided, May-from_Must, Must-negation, May-negation}
use Rattle.tv_model.specs.Form.{Form, FZero, FOne, FAtom, FIsNew, FSame, FNot, FAnd, FOr, FIff, FCond}
use Rattle.tv_model.specs.Form.{FExists, FForall, FClosure}
use Rattle.tv_model.specs.Truth.{Assignment, put, IsWalk}
use Rattle.tv_model.proofs.Walks.{WalksWithin}
use Rattle.tv_embedding_laws.specs.LogicalStructure.{LogicalStructure}
use Rattle.tv_eval_laws.specs.Value.{value, mark_value, same_value, greatest_of, least_of, best_walk}
use Rattle.tv_eval_laws.specs.Thresholds.{Meets, IsTrueIn, ValuesMeetThresholds}
use Rattle.tv_eval_laws.proofs.Folds.{greatest-threshold, least-threshold}
use Rattle.tv_eval_laws.proofs.Walks.{best_walk-threshold}
use Rattle.tv_eval_laws.proofs.Entries.{mark-May, mark-Must, own_value, same-here, same-apart}

-- the threshold as a predicate of values
abbrev pub Threshold : Bool → K3 → Type 0
Threshold true = Must
Threshold false = May

is-threshold : (c : Bool) → IsThreshold (Threshold c)
is-threshold true = must_threshold
is-threshold false = may_threshold

threshold-negation : (c : Bool) (x : K3) → Threshold c (negation_of x) ↔ (¬ Threshold (not c) x)
threshold-negation true x = Must-negation x
threshold-negation false x = May-negation x

pub meets-threshold : (c : Bool) (x : K3) → Threshold c x ↔ Meets c x
meets-threshold true x = Must-is x
meets-threshold false x = (
  λ m e. (May-is x).1 e m,
  λ n. ⊎_elim (λ m. m) (λ d. absurd (n ((May-is x).0 d))) (May-decided x),
)

-- ---- equivalences go through the connectives

iff-trans : (P Q R : Type 0) → P ↔ Q → Q ↔ R → P ↔ R
iff-trans P Q R p q = (λ d. q.0 (p.0 d), λ d. p.1 (q.1 d))

and-iff : (P Q R S : Type 0) → P ↔ Q → R ↔ S → (P × R) ↔ (Q × S)
and-iff P Q R S p r = (λ d. (p.0 d.0, r.0 d.1), λ d. (p.1 d.0, r.1 d.1))

or-iff : (P Q R S : Type 0) → P ↔ Q → R ↔ S → (P ⊎ R) ↔ (Q ⊎ S)
or-iff P Q R S p r = (
  λ d. ⊎_elim (λ e. inl (p.0 e)) (λ e. inr (r.0 e)) d,
  λ d. ⊎_elim (λ e. inl (p.1 e)) (λ e. inr (r.1 e)) d,
)

not-iff : (P Q : Type 0) → P ↔ Q → (¬ P) ↔ (¬ Q)
not-iff P Q p = (λ n d. n (p.1 d), λ n d. n (p.0 d))

walk-iff : (R S : ℕ → ℕ → Type 0) → ((u w : ℕ) → R u w ↔ S u w) → (u : ℕ) (stops : List ℕ) (w : ℕ)
    → IsWalk R u stops w ↔ IsWalk S u stops w
walk-iff R S same u [] w = same u w
walk-iff R S same u (stop ∷ stops) w =
    and-iff (R u stop) (S u stop) (IsWalk R stop stops w) (IsWalk S stop stops w) (same u stop)
    (walk-iff R S same stop stops w)

-- ---- the operations, by one threshold

negation-iff : (c : Bool) (x : K3) (P : Type 0) → Threshold (not c) x ↔ P → Threshold c (negation_of x) ↔ (¬ P)
negation-iff c x P p =
    iff-trans (Threshold c (negation_of x)) (¬ Threshold (not c) x) (¬ P) (threshold-negation c x)
    (not-iff (Threshold (not c) x) P p)

smaller-iff : (c : Bool) (x y : K3) (P Q : Type 0) → Threshold c x ↔ P → Threshold c y ↔ Q
    → Threshold c (smaller_of x y) ↔ (P × Q)
smaller-iff c x y P Q p q =
    iff-trans (Threshold c (smaller_of x y)) (Threshold c x × Threshold c y) (P × Q) ((is-threshold c).smaller x y)
    (and-iff (Threshold c x) P (Threshold c y) Q p q)

larger-iff : (c : Bool) (x y : K3) (P Q : Type 0) → Threshold c x ↔ P → Threshold c y ↔ Q
    → Threshold c (larger_of x y) ↔ (P ⊎ Q)
larger-iff c x y P Q p q =
    iff-trans (Threshold c (larger_of x y)) (Threshold c x ⊎ Threshold c y) (P ⊎ Q) ((is-threshold c).larger x y)
    (or-iff (Threshold c x) P (Threshold c y) Q p q)

greatest-iff : (c : Bool) (g : ℕ → K3) (P : ℕ → Type 0) (xs : List ℕ) → ((u : ℕ) → Threshold c (g u) ↔ P u)
    → Threshold c (greatest_of g xs) ↔ ((u : ℕ) × Contains xs u × P u)
greatest-iff c g P xs each = (
  λ m. let d : (u : ℕ) × Contains xs u × Threshold c (g u) =
      (greatest-threshold (Threshold c) (is-threshold c) g xs).0 m
      in (d.0, d.1, (each d.0).0 d.2),
  λ d. (greatest-threshold (Threshold c) (is-threshold c) g xs).1 (d.0, d.1, (each d.0).1 d.2),
)

least-iff : (c : Bool) (g : ℕ → K3) (P : ℕ → Type 0) (xs : List ℕ) → ((u : ℕ) → Threshold c (g u) ↔ P u)
    → Threshold c (least_of g xs) ↔ ((u : ℕ) → Contains xs u → P u)
least-iff c g P xs each = (
  λ m u at. (each u).0 ((least-threshold (Threshold c) (is-threshold c) g xs).0 m u at),
  λ d. (least-threshold (Threshold c) (is-threshold c) g xs).1 (λ u at. (each u).1 (d u at)),
)

best_walk-iff : (c : Bool) (edge : ℕ → ℕ → K3) (R : ℕ → ℕ → Type 0) (xs : List ℕ)
    → ((u w : ℕ) → Threshold c (edge u w) ↔ R u w) → (u w : ℕ)
    → Threshold c (best_walk edge xs u w) ↔ ((stops : List ℕ) × All (Contains xs) stops × IsWalk R u stops w)
best_walk-iff c edge R xs each u w = (
  λ m. let d : WalksWithin (λ x y. Threshold c (edge x y)) xs u w
      = (best_walk-threshold (Threshold c) (is-threshold c) edge xs u w).0 m
      in (d.0, d.1, (walk-iff (λ x y. Threshold c (edge x y)) R each u d.0 w).0 d.2),
  λ d. (best_walk-threshold (Threshold c) (is-threshold c) edge xs u w).1
      (d.0, d.1, (walk-iff (λ x y. Threshold c (edge x y)) R each u d.0 w).1 d.2),
)

mark-iff : (c : Bool) (s : LogicalStructure) (u : ℕ) → Threshold c (mark_value s.fresh u) ↔ (s.fresh ≡ Some u)
mark-iff true s u = (
  λ m. mark-May s.fresh u (May-from_Must (mark_value s.fresh u) m),
  λ e. mark-Must s.fresh u e,
)
mark-iff false s u = (
  λ m. mark-May s.fresh u m,
  λ e. May-from_Must (mark_value s.fresh u) (mark-Must s.fresh u e),
)

own-iff : (c summary : Bool) → Threshold c (own_value summary) ↔ (IsTrue c → summary ≡ false)
own-iff true true = (λ m. absurd m, λ n. absurd (false≢true (sym (n refl))))
own-iff true false = (λ m t. refl, λ n. tt)
own-iff false true = (λ m t. absurd (false≢true t), λ n. tt)
own-iff false false = (λ m t. refl, λ n. tt)

same-iff : (c : Bool) (s : LogicalStructure) (u w : ℕ)
    → Threshold c (same_value s u w) ↔ ((u ≡ w) × (IsTrue c → s.is_summary u ≡ false))
same-iff c s u w = (
  λ m. ⊎_elim
      (λ e. (e, (own-iff c (s.is_summary u)).0 (subst (Threshold c) (same-here s u w e) m)))
      (λ ne. absurd ((is-threshold c).no (subst (Threshold c) (same-apart s u w ne) m)))
      (cases_eq u w),
  λ d. subst (Threshold c) (sym (same-here s u w d.0)) ((own-iff c (s.is_summary u)).1 d.1),
)

-- ---- formulas

pub threshold-value : (c : Bool) (s : LogicalStructure) (a : Assignment) (f : Form) → Threshold c (value s a f)
    ↔ IsTrueIn c s a f
threshold-value c s a FZero = ((is-threshold c).no, λ n. absurd n)
threshold-value c s a FOne = (λ m. tt, λ n. (is-threshold c).yes)
threshold-value c s a (FAtom pred vars) = meets-threshold c (s.value pred (map a vars))
threshold-value c s a (FIsNew v) = mark-iff c s (a v)
threshold-value c s a (FSame v w) = same-iff c s (a v) (a w)
threshold-value c s a (FNot f) = negation-iff c (value s a f) (IsTrueIn (not c) s a f) (threshold-value (not c) s a f)
threshold-value c s a (FAnd f g) =
    smaller-iff c (value s a f) (value s a g) (IsTrueIn c s a f) (IsTrueIn c s a g) (threshold-value c s a f)
    (threshold-value c s a g)
threshold-value c s a (FOr f g) =
    larger-iff c (value s a f) (value s a g) (IsTrueIn c s a f) (IsTrueIn c s a g) (threshold-value c s a f)
    (threshold-value c s a g)
threshold-value c s a (FIff f g) =
    smaller-iff c (larger_of (negation_of (value s a f)) (value s a g))
    (larger_of (negation_of (value s a g)) (value s a f))
    ((¬ IsTrueIn (not c) s a f) ⊎ IsTrueIn c s a g) ((¬ IsTrueIn (not c) s a g) ⊎ IsTrueIn c s a f)
    (larger-iff c (negation_of (value s a f)) (value s a g) (¬ IsTrueIn (not c) s a f) (IsTrueIn c s a g)
    (negation-iff c (value s a f) (IsTrueIn (not c) s a f) (threshold-value (not c) s a f)) (threshold-value c s a g))
    (larger-iff c (negation_of (value s a g)) (value s a f) (¬ IsTrueIn (not c) s a g) (IsTrueIn c s a f)
    (negation-iff c (value s a g) (IsTrueIn (not c) s a g) (threshold-value (not c) s a g)) (threshold-value c s a f))
threshold-value c s a (FCond k f g) =
    larger-iff c (smaller_of (value s a k) (value s a f)) (smaller_of (negation_of (value s a k)) (value s a g))
    (IsTrueIn c s a k × IsTrueIn c s a f) ((¬ IsTrueIn (not c) s a k) × IsTrueIn c s a g)
    (smaller-iff c (value s a k) (value s a f) (IsTrueIn c s a k) (IsTrueIn c s a f) (threshold-value c s a k)
    (threshold-value c s a f))
    (smaller-iff c (negation_of (value s a k)) (value s a g) (¬ IsTrueIn (not c) s a k) (IsTrueIn c s a g)
    (negation-iff c (value s a k) (IsTrueIn (not c) s a k) (threshold-value (not c) s a k)) (threshold-value c s a g))
threshold-value c s a (FExists v f) =
    greatest-iff c (λ u. value s (put a v u) f) (λ u. IsTrueIn c s (put a v u) f) s.individuals
    (λ u. threshold-value c s (put a v u) f)
threshold-value c s a (FForall v f) =
    least-iff c (λ u. value s (put a v u) f) (λ u. IsTrueIn c s (put a v u) f) s.individuals
    (λ u. threshold-value c s (put a v u) f)
threshold-value c s a (FClosure from to left right f) =
    best_walk-iff c (λ u w. value s (put (put a left u) right w) f) (λ u w. IsTrueIn c s (put (put a left u) right w) f)
    s.individuals (λ u w. threshold-value c s (put (put a left u) right w) f) (a from) (a to)

pub values_meet_thresholds : ValuesMeetThresholds
values_meet_thresholds c s a f = (
  λ m. (threshold-value c s a f).0 ((meets-threshold c (value s a f)).1 m),
  λ t. (meets-threshold c (value s a f)).0 ((threshold-value c s a f).1 t),
)
