-- Lemmas on structures whose individuals are matched, for the crates above: values lie under one another.
use Rattle.std.proofs.Common.{ℕ, ◌≢◌, List, map, inl, inr, refl, Contains}
use Rattle.tv_kleene.specs.declared.K3.{K3}
use Rattle.tv_kleene.specs.declared.K3.TheVariants.{No, Yes}
use Rattle.tv_kleene.specs.Kleene.{LiesUnder, smaller_of, larger_of, negation_of}
use Rattle.tv_kleene.proofs.Thresholds.{Under, Under-refl, Under-from_LiesUnder, LiesUnder-from_Under}
use Rattle.tv_kleene.proofs.Thresholds.{Under-negation, Under-smaller, Under-larger}
use Rattle.tv_model.specs.Form.{Form, FZero, FOne, FAtom, FIsNew, FSame, FNot, FAnd, FOr, FIff, FCond}
use Rattle.tv_model.specs.Form.{FExists, FForall, FClosure, IsFree, Mentions}
use Rattle.tv_model.specs.Truth.{Assignment, put}
use Rattle.tv_model.specs.Valid.{NamesNew}
use Rattle.tv_model.proofs.Walks.{IsTotal}
use Rattle.tv_model.proofs.Assignments.{put-matched}
use Rattle.tv_embedding_laws.specs.LogicalStructure.{LogicalStructure}
use Rattle.tv_eval_laws.specs.Value.{value, mark_value, same_value}
use Rattle.tv_eval_laws.proofs.Folds.{Under-greatest, Under-least}
use Rattle.tv_eval_laws.proofs.Walks.{Under-best_walk}

-- the individuals of s and of t are matched, so that what P and Marked ask for has in s values that lie
-- under those in t
pub record Matched (P : ℕ → Type 0) (Marked : Type 0) (M : ℕ → ℕ → Type 0) (s t : LogicalStructure) : Type 0 where
  pub there : IsTotal M s.individuals t.individuals
  pub back : IsTotal (λ w u. M u w) t.individuals s.individuals
  pub atoms : (pred : ℕ) → P pred → (vars : List ℕ) (a b : Assignment) → ((v : ℕ) → Contains vars v → M (a v) (b v))
      → LiesUnder (s.value pred (map a vars)) (t.value pred (map b vars))
  pub same : (u w x y : ℕ) → M u x → M w y → LiesUnder (same_value s u w) (same_value t x y)
  pub marks : Marked → (u w : ℕ) → M u w → LiesUnder (mark_value s.fresh u) (mark_value t.fresh w)

pub Under-iff : (x y z w : K3) → Under x y → Under z w
    → Under (smaller_of (larger_of (negation_of x) z) (larger_of (negation_of z) x))
    (smaller_of (larger_of (negation_of y) w) (larger_of (negation_of w) y))
Under-iff x y z w u v =
    Under-smaller (larger_of (negation_of x) z) (larger_of (negation_of y) w) (larger_of (negation_of z) x)
    (larger_of (negation_of w) y)
    (Under-larger (negation_of x) (negation_of y) z w (Under-negation x y u) v)
    (Under-larger (negation_of z) (negation_of w) x y (Under-negation z w v) u)

pub Under-cond : (c d x y z w : K3) → Under c d → Under x y → Under z w
    → Under (larger_of (smaller_of c x) (smaller_of (negation_of c) z))
    (larger_of (smaller_of d y) (smaller_of (negation_of d) w))
Under-cond c d x y z w k u v =
    Under-larger (smaller_of c x) (smaller_of d y) (smaller_of (negation_of c) z) (smaller_of (negation_of d) w)
    (Under-smaller c d x y k u)
    (Under-smaller (negation_of c) (negation_of d) z w (Under-negation c d k) v)

pub value-under : (P : ℕ → Type 0) (Marked : Type 0) (M : ℕ → ℕ → Type 0) (s t : LogicalStructure)
    → Matched P Marked M s t
    → (a b : Assignment) (f : Form) → ((q : ℕ) → Mentions q f → P q) → (NamesNew f → Marked)
    → ((v : ℕ) → IsFree v f → M (a v) (b v)) → Under (value s a f) (value t b f)
value-under P Marked M s t is a b FZero mentioned named free = Under-refl No
value-under P Marked M s t is a b FOne mentioned named free = Under-refl Yes
value-under P Marked M s t is a b (FAtom q vars) mentioned named free =
    Under-from_LiesUnder (s.value q (map a vars)) (t.value q (map b vars)) (is.atoms q (mentioned q refl) vars a b free)
value-under P Marked M s t is a b (FIsNew v) mentioned named free =
    Under-from_LiesUnder (mark_value s.fresh (a v)) (mark_value t.fresh (b v))
    (is.marks (named tt) (a v) (b v) (free v refl))
value-under P Marked M s t is a b (FSame v w) mentioned named free =
    Under-from_LiesUnder (same_value s (a v) (a w)) (same_value t (b v) (b w))
    (is.same (a v) (a w) (b v) (b w) (free v (inl refl)) (free w (inr refl)))
value-under P Marked M s t is a b (FNot f) mentioned named free =
    Under-negation (value s a f) (value t b f) (value-under P Marked M s t is a b f mentioned named free)
value-under P Marked M s t is a b (FAnd f g) mentioned named free =
    Under-smaller (value s a f) (value t b f) (value s a g) (value t b g)
    (value-under P Marked M s t is a b f (λ q m. mentioned q (inl m)) (λ n. named (inl n)) (λ v m. free v (inl m)))
    (value-under P Marked M s t is a b g (λ q m. mentioned q (inr m)) (λ n. named (inr n)) (λ v m. free v (inr m)))
value-under P Marked M s t is a b (FOr f g) mentioned named free =
    Under-larger (value s a f) (value t b f) (value s a g) (value t b g)
    (value-under P Marked M s t is a b f (λ q m. mentioned q (inl m)) (λ n. named (inl n)) (λ v m. free v (inl m)))
    (value-under P Marked M s t is a b g (λ q m. mentioned q (inr m)) (λ n. named (inr n)) (λ v m. free v (inr m)))
value-under P Marked M s t is a b (FIff f g) mentioned named free =
    Under-iff (value s a f) (value t b f) (value s a g) (value t b g)
    (value-under P Marked M s t is a b f (λ q m. mentioned q (inl m)) (λ n. named (inl n)) (λ v m. free v (inl m)))
    (value-under P Marked M s t is a b g (λ q m. mentioned q (inr m)) (λ n. named (inr n)) (λ v m. free v (inr m)))
value-under P Marked M s t is a b (FCond c f g) mentioned named free =
    Under-cond (value s a c) (value t b c) (value s a f) (value t b f) (value s a g) (value t b g)
    (value-under P Marked M s t is a b c (λ q m. mentioned q (inl m)) (λ n. named (inl n)) (λ v m. free v (inl m)))
    (value-under P Marked M s t is a b f (λ q m. mentioned q (inr (inl m))) (λ n. named (inr (inl n)))
    (λ v m. free v (inr (inl m))))
    (value-under P Marked M s t is a b g (λ q m. mentioned q (inr (inr m))) (λ n. named (inr (inr n)))
    (λ v m. free v (inr (inr m))))
value-under P Marked M s t is a b (FExists v f) mentioned named free =
    Under-greatest M s.individuals t.individuals is.there is.back (λ u. value s (put a v u) f)
    (λ w. value t (put b v w) f)
    (λ u w m. value-under P Marked M s t is (put a v u) (put b v w) f mentioned named
    (put-matched (λ x. IsFree x f) M a b v u w m free))
value-under P Marked M s t is a b (FForall v f) mentioned named free =
    Under-least M s.individuals t.individuals is.there is.back (λ u. value s (put a v u) f) (λ w. value t (put b v w) f)
    (λ u w m. value-under P Marked M s t is (put a v u) (put b v w) f mentioned named
    (put-matched (λ x. IsFree x f) M a b v u w m free))
value-under P Marked M s t is a b (FClosure from to left right f) mentioned named free =
    Under-best_walk M s.individuals t.individuals is.there is.back
    (λ u w. value s (put (put a left u) right w) f) (λ x y. value t (put (put b left x) right y) f)
    (λ u w x y m n. value-under P Marked M s t is (put (put a left u) right w)
    (put (put b left x) right y) f mentioned named
    (put-matched (λ z. IsFree z f) M (put a left u) (put b left x) right w y n
    (put-matched (λ z. (z ≢ right) × IsFree z f) M a b left u x m (λ z k. free z (inr (inr (k.0, k.1.0, k.1.1)))))))
    (a from) (a to) (b from) (b to) (free from (inl refl)) (free to (inr (inl refl)))

pub value-lies_under : (P : ℕ → Type 0) (Marked : Type 0) (M : ℕ → ℕ → Type 0) (s t : LogicalStructure)
    → Matched P Marked M s t
    → (a b : Assignment) (f : Form) → ((q : ℕ) → Mentions q f → P q) → (NamesNew f → Marked)
    → ((v : ℕ) → IsFree v f → M (a v) (b v)) → LiesUnder (value s a f) (value t b f)
value-lies_under P Marked M s t is a b f mentioned named free =
    LiesUnder-from_Under (value s a f) (value t b f) (value-under P Marked M s t is a b f mentioned named free)
