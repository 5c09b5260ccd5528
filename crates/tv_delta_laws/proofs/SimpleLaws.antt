-- The constructors that simplify: what they give is one of a few formulas, and it keeps truth.
use Rattle.std.proofs.Common.{ℕ, ◌≡◌, ◌↔◌, ◌⊎◌, Bool, true, false, inl, inr, ⊎_elim, refl, cond}
use Rattle.std.specs.Prelude.{◌||◌}
use Rattle.std.proofs.lemmas.Bool.{false≢true}
use Rattle.tv_model.specs.Form.{Form, FZero, FOne, FAtom, FIsNew, FSame, FNot, FAnd, FOr, FIff, FCond}
use Rattle.tv_model.specs.Form.{FExists, FForall, FClosure}
use Rattle.tv_model.specs.Heap.{Heap}
use Rattle.tv_model.specs.Truth.{Assignment, Truth, put}
use Rattle.tv_delta_laws.specs.Simple.{is_zero, is_one, simple_not, simple_and, simple_or, simple_exists}
use Rattle.tv_delta_laws.specs.Simple.{simple_forall, simple_cond}
use Rattle.tv_delta_laws.specs.Laws.{SimplifyingKeepsTruth}

-- ---- what is 0 or 1

pub zero-is_false : (h : Heap) (a : Assignment) (f : Form) → is_zero f ≡ true → Truth h a f → ⊥
zero-is_false h a FZero e t = t
zero-is_false h a FOne e t = false≢true e
zero-is_false h a (FAtom q vars) e t = false≢true e
zero-is_false h a (FIsNew v) e t = false≢true e
zero-is_false h a (FSame v w) e t = false≢true e
zero-is_false h a (FNot f) e t = false≢true e
zero-is_false h a (FAnd f g) e t = false≢true e
zero-is_false h a (FOr f g) e t = false≢true e
zero-is_false h a (FIff f g) e t = false≢true e
zero-is_false h a (FCond c f g) e t = false≢true e
zero-is_false h a (FExists v f) e t = false≢true e
zero-is_false h a (FForall v f) e t = false≢true e
zero-is_false h a (FClosure from to left right f) e t = false≢true e

pub one-is_true : (h : Heap) (a : Assignment) (f : Form) → is_one f ≡ true → Truth h a f
one-is_true h a FZero e = absurd (false≢true e)
one-is_true h a FOne e = tt
one-is_true h a (FAtom q vars) e = absurd (false≢true e)
one-is_true h a (FIsNew v) e = absurd (false≢true e)
one-is_true h a (FSame v w) e = absurd (false≢true e)
one-is_true h a (FNot f) e = absurd (false≢true e)
one-is_true h a (FAnd f g) e = absurd (false≢true e)
one-is_true h a (FOr f g) e = absurd (false≢true e)
one-is_true h a (FIff f g) e = absurd (false≢true e)
one-is_true h a (FCond c f g) e = absurd (false≢true e)
one-is_true h a (FExists v f) e = absurd (false≢true e)
one-is_true h a (FForall v f) e = absurd (false≢true e)
one-is_true h a (FClosure from to left right f) e = absurd (false≢true e)

-- ---- what the constructors give

pub not-by : (P : Form → Type 0) (f : Form) → (is_zero f ≡ true → P FOne) → (is_one f ≡ true → P FZero) → P (FNot f)
    → P (simple_not f)
not-by P f zf of plain = go (is_zero f) (is_one f) refl refl
  where
    go : (a b : Bool) → is_zero f ≡ a → is_one f ≡ b → P (cond a FOne (cond b FZero (FNot f)))
    go true b d e = zf d
    go false true d e = of e
    go false false d e = plain

pub and-by : (P : Form → Type 0) (f g : Form) → (is_zero f ≡ true → P FZero) → (is_zero g ≡ true → P FZero)
    → (is_one f ≡ true → P g) → (is_one g ≡ true → P f) → P (FAnd f g) → P (simple_and f g)
and-by P f g zf zg of og plain = go (is_zero f) (is_zero g) (is_one f) (is_one g) refl refl refl refl
  where
    go : (a b c d : Bool) → is_zero f ≡ a → is_zero g ≡ b → is_one f ≡ c → is_one g ≡ d
        → P (cond (a || b) FZero (cond c g (cond d f (FAnd f g))))
    go true b c d e1 e2 e3 e4 = zf e1
    go false true c d e1 e2 e3 e4 = zg e2
    go false false true d e1 e2 e3 e4 = of e3
    go false false false true e1 e2 e3 e4 = og e4
    go false false false false e1 e2 e3 e4 = plain

pub or-by : (P : Form → Type 0) (f g : Form) → (is_one f ≡ true → P FOne) → (is_one g ≡ true → P FOne)
    → (is_zero f ≡ true → P g) → (is_zero g ≡ true → P f) → P (FOr f g) → P (simple_or f g)
or-by P f g of og zf zg plain = go (is_one f) (is_one g) (is_zero f) (is_zero g) refl refl refl refl
  where
    go : (a b c d : Bool) → is_one f ≡ a → is_one g ≡ b → is_zero f ≡ c → is_zero g ≡ d
        → P (cond (a || b) FOne (cond c g (cond d f (FOr f g))))
    go true b c d e1 e2 e3 e4 = of e1
    go false true c d e1 e2 e3 e4 = og e2
    go false false true d e1 e2 e3 e4 = zf e3
    go false false false true e1 e2 e3 e4 = zg e4
    go false false false false e1 e2 e3 e4 = plain

pub exists-by : (P : Form → Type 0) (v : ℕ) (f : Form) → (is_zero f ≡ true → P FZero) → P (FExists v f)
    → P (simple_exists v f)
exists-by P v f zf plain = go (is_zero f) refl
  where
    go : (a : Bool) → is_zero f ≡ a → P (cond a FZero (FExists v f))
    go true e = zf e
    go false e = plain

pub forall-by : (P : Form → Type 0) (v : ℕ) (f : Form) → (is_one f ≡ true → P FOne) → P (FForall v f)
    → P (simple_forall v f)
forall-by P v f of plain = go (is_one f) refl
  where
    go : (a : Bool) → is_one f ≡ a → P (cond a FOne (FForall v f))
    go true e = of e
    go false e = plain

pub cond-by : (P : Form → Type 0) (c f g : Form) → (is_one f ≡ true → P (simple_or c g))
    → (is_zero g ≡ true → P (simple_and c f)) → P (FCond c f g) → P (simple_cond c f g)
cond-by P c f g of zg plain = go (is_one f) (is_zero g) refl refl
  where
    go : (a b : Bool) → is_one f ≡ a → is_zero g ≡ b → P (cond a (simple_or c g) (cond b (simple_and c f) (FCond c f g)))
    go true b d e = of d
    go false true d e = zg e
    go false false d e = plain

-- ---- truth

pub not-truth : (h : Heap) (a : Assignment) (f : Form) → Truth h a (simple_not f) ↔ (¬ Truth h a f)
not-truth h a f =
    not-by (λ x. Truth h a x ↔ (¬ Truth h a f)) f
    (λ e. (λ t s. zero-is_false h a f e s, λ t. tt))
    (λ e. (λ t. absurd t, λ t. t (one-is_true h a f e)))
    (λ t. t, λ t. t)

pub and-truth : (h : Heap) (a : Assignment) (f g : Form) → Truth h a (simple_and f g) ↔ (Truth h a f × Truth h a g)
and-truth h a f g =
    and-by (λ x. Truth h a x ↔ (Truth h a f × Truth h a g)) f g
    (λ e. (λ t. absurd t, λ t. zero-is_false h a f e t.0))
    (λ e. (λ t. absurd t, λ t. zero-is_false h a g e t.1))
    (λ e. (λ t. (one-is_true h a f e, t), λ t. t.1))
    (λ e. (λ t. (t, one-is_true h a g e), λ t. t.0))
    (λ t. t, λ t. t)

pub or-truth : (h : Heap) (a : Assignment) (f g : Form) → Truth h a (simple_or f g) ↔ (Truth h a f ⊎ Truth h a g)
or-truth h a f g =
    or-by (λ x. Truth h a x ↔ (Truth h a f ⊎ Truth h a g)) f g
    (λ e. (λ t. inl (one-is_true h a f e), λ t. tt))
    (λ e. (λ t. inr (one-is_true h a g e), λ t. tt))
    (λ e. (λ t. inr t, λ t. ⊎_elim (λ s. absurd (zero-is_false h a f e s)) (λ s. s) t))
    (λ e. (λ t. inl t, λ t. ⊎_elim (λ s. s) (λ s. absurd (zero-is_false h a g e s)) t))
    (λ t. t, λ t. t)

pub exists-truth : (h : Heap) (a : Assignment) (v : ℕ) (f : Form)
    → Truth h a (simple_exists v f) ↔ Truth h a (FExists v f)
exists-truth h a v f =
    exists-by (λ x. Truth h a x ↔ Truth h a (FExists v f)) v f
    (λ e. (λ t. absurd t, λ t. zero-is_false h (put a v t.0) f e t.2))
    (λ t. t, λ t. t)

pub forall-truth : (h : Heap) (a : Assignment) (v : ℕ) (f : Form)
    → Truth h a (simple_forall v f) ↔ Truth h a (FForall v f)
forall-truth h a v f =
    forall-by (λ x. Truth h a x ↔ Truth h a (FForall v f)) v f
    (λ e. (λ t u at. one-is_true h (put a v u) f e, λ t. tt))
    (λ t. t, λ t. t)

-- a conditional is decided by its condition
pub cond-truth : (decided : (h : Heap) (a : Assignment) (f : Form) → Truth h a f ⊎ (¬ Truth h a f))
    → (h : Heap) (a : Assignment) (c f g : Form) → Truth h a (simple_cond c f g) ↔ Truth h a (FCond c f g)
cond-truth decided h a c f g =
    cond-by (λ x. Truth h a x ↔ Truth h a (FCond c f g)) c f g
    (λ e. (
      λ t. ⊎_elim (λ s. inl (s, one-is_true h a f e))
          (λ s. ⊎_elim (λ d. inl (d, one-is_true h a f e)) (λ n. inr (n, s)) (decided h a c))
          ((or-truth h a c g).0 t),
      λ t. (or-truth h a c g).1 (⊎_elim (λ s. inl s.0) (λ s. inr s.1) t),
    ))
    (λ e. (
      λ t. inl ((and-truth h a c f).0 t),
      λ t. (and-truth h a c f).1 (⊎_elim (λ s. s) (λ s. absurd (zero-is_false h a g e s.1)) t),
    ))
    (λ t. t, λ t. t)

pub simplifying_keeps_truth : ((h : Heap) (a : Assignment) (f : Form) → Truth h a f ⊎ (¬ Truth h a f))
    → SimplifyingKeepsTruth
simplifying_keeps_truth decided = record {
  negation = λ f h a. not-truth h a f;
  conjunction = λ f g h a. and-truth h a f g;
  disjunction = λ f g h a. or-truth h a f g;
  existence = λ v f h a. exists-truth h a v f;
  universality = λ v f h a. forall-truth h a v f;
  conditional = λ c f g h a. cond-truth decided h a c f g;
}
