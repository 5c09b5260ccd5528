-- The formulas that differencing forms are formulas over the vocabulary, without a fresh individual, and over
-- the variables that they should be over.
use Rattle.std.proofs.Common.{ℕ, ◌⊎◌, Bool, List, Option, Some, None, inl, inr, ⊎_elim, sym, subst, Contains}
use Rattle.std.specs.Prelude.{◌&&◌, IfSome}
use Rattle.std.proofs.lemmas.Bool.{cond_both}
use Rattle.std.proofs.lemmas.List.Elements.{All-contains}
use Rattle.tv_model.specs.Form.{Form, FZero, FOne, FAtom, FIsNew, FSame, FNot, FAnd, FOr, FIff, FCond}
use Rattle.tv_model.specs.Form.{FExists, FForall, FClosure, IsFree}
use Rattle.tv_model.specs.Valid.{IsVariable, IsFormulaOver, NamesNew}
use Rattle.tv_delta_laws.specs.Simple.{is_small, simple_not, simple_and, simple_or, simple_exists}
use Rattle.tv_delta_laws.specs.Simple.{simple_forall, simple_cond}
use Rattle.tv_delta_laws.specs.Deltas.{Delta, delta_by, after, unchanged, negated, both, either, some, every}
use Rattle.tv_delta_laws.specs.Deltas.{touches, delta_of}
use Rattle.tv_delta_laws.proofs.Options.{if-then}
use Rattle.tv_delta_laws.proofs.SimpleLaws.{not-by, and-by, or-by, exists-by, forall-by, cond-by}
use Rattle.tv_delta_laws.proofs.DeltaTruths.{if-small_over}

-- g is a formula over predicates of these arities that doesn't speak of a fresh individual, and whose free
-- variables are those of f and picked ones
pub record IsFit (arities picks : List ℕ) (f g : Form) : Type 0 where
  pub formula : IsFormulaOver arities g
  pub plain : ¬ NamesNew g
  pub free : (v : ℕ) → IsFree v g → IsFree v f ⊎ Contains picks v

fit-wider : (arities picks : List ℕ) (f o g : Form) → ((v : ℕ) → IsFree v f → IsFree v o) → IsFit arities picks f g
    → IsFit arities picks o g
fit-wider arities picks f o g wider is = record {
  formula = is.formula;
  plain = is.plain;
  free = λ v at. ⊎_elim (λ t. inl (wider v t)) (λ t. inr t) (is.free v at);
}

pub fit-zero : (arities picks : List ℕ) (f : Form) → IsFit arities picks f FZero
fit-zero arities picks f = record { formula = tt; plain = λ t. t; free = λ v t. absurd t }

fit-one : (arities picks : List ℕ) (f : Form) → IsFit arities picks f FOne
fit-one arities picks f = record { formula = tt; plain = λ t. t; free = λ v t. absurd t }

fit-not : (arities picks : List ℕ) (f g : Form) → IsFit arities picks f g → IsFit arities picks f (FNot g)
fit-not arities picks f g is = record { formula = is.formula; plain = is.plain; free = is.free }

fit-and : (arities picks : List ℕ) (f g x : Form) → IsFit arities picks f g → IsFit arities picks f x
    → IsFit arities picks f (FAnd g x)
fit-and arities picks f g x one two = record {
  formula = (one.formula, two.formula);
  plain = λ t. ⊎_elim one.plain two.plain t;
  free = λ v t. ⊎_elim (one.free v) (two.free v) t;
}

fit-or : (arities picks : List ℕ) (f g x : Form) → IsFit arities picks f g → IsFit arities picks f x
    → IsFit arities picks f (FOr g x)
fit-or arities picks f g x one two = record {
  formula = (one.formula, two.formula);
  plain = λ t. ⊎_elim one.plain two.plain t;
  free = λ v t. ⊎_elim (one.free v) (two.free v) t;
}

fit-cond : (arities picks : List ℕ) (f c g x : Form) → IsFit arities picks f c → IsFit arities picks f g
    → IsFit arities picks f x → IsFit arities picks f (FCond c g x)
fit-cond arities picks f c g x guard one two = record {
  formula = (guard.formula, one.formula, two.formula);
  plain = λ t. ⊎_elim guard.plain (λ s. ⊎_elim one.plain two.plain s) t;
  free = λ v t. ⊎_elim (guard.free v) (λ s. ⊎_elim (one.free v) (two.free v) s) t;
}

fit-quantified : (arities picks : List ℕ) (v : ℕ) (f g : Form) → IsVariable v → IsFit arities picks f g
    → IsFit arities picks (FExists v f) (FExists v g) × IsFit arities picks (FExists v f) (FForall v g)
fit-quantified arities picks v f g variable is = (
  record {
    formula = (variable, is.formula);
    plain = is.plain;
    free = λ x t. ⊎_elim (λ s. inl (t.0, s)) (λ s. inr s) (is.free x t.1);
  },
  record {
    formula = (variable, is.formula);
    plain = is.plain;
    free = λ x t. ⊎_elim (λ s. inl (t.0, s)) (λ s. inr s) (is.free x t.1);
  },
)

-- ---- simplified

pub sim-not : (arities picks : List ℕ) (f g : Form) → IsFit arities picks f g → IsFit arities picks f (simple_not g)
sim-not arities picks f g is =
    not-by (IsFit arities picks f) g (λ e. fit-one arities picks f) (λ e. fit-zero arities picks f)
    (fit-not arities picks f g is)

pub sim-and : (arities picks : List ℕ) (f g x : Form) → IsFit arities picks f g → IsFit arities picks f x
    → IsFit arities picks f (simple_and g x)
sim-and arities picks f g x one two =
    and-by (IsFit arities picks f) g x (λ e. fit-zero arities picks f) (λ e. fit-zero arities picks f) (λ e. two)
    (λ e. one) (fit-and arities picks f g x one two)

sim-or : (arities picks : List ℕ) (f g x : Form) → IsFit arities picks f g → IsFit arities picks f x
    → IsFit arities picks f (simple_or g x)
sim-or arities picks f g x one two =
    or-by (IsFit arities picks f) g x (λ e. fit-one arities picks f) (λ e. fit-one arities picks f) (λ e. two)
    (λ e. one) (fit-or arities picks f g x one two)

pub sim-cond : (arities picks : List ℕ) (f c g x : Form) → IsFit arities picks f c → IsFit arities picks f g
    → IsFit arities picks f x → IsFit arities picks f (simple_cond c g x)
sim-cond arities picks f c g x guard one two =
    cond-by (IsFit arities picks f) c g x (λ e. sim-or arities picks f c x guard two)
    (λ e. sim-and arities picks f c g guard one) (fit-cond arities picks f c g x guard one two)

sim-exists : (arities picks : List ℕ) (v : ℕ) (f g : Form) → IsVariable v → IsFit arities picks f g
    → IsFit arities picks (FExists v f) (simple_exists v g)
sim-exists arities picks v f g variable is =
    exists-by (IsFit arities picks (FExists v f)) v g (λ e. fit-zero arities picks (FExists v f))
    (fit-quantified arities picks v f g variable is).0

sim-forall : (arities picks : List ℕ) (v : ℕ) (f g : Form) → IsVariable v → IsFit arities picks f g
    → IsFit arities picks (FExists v f) (simple_forall v g)
sim-forall arities picks v f g variable is =
    forall-by (IsFit arities picks (FExists v f)) v g (λ e. fit-one arities picks (FExists v f))
    (fit-quantified arities picks v f g variable is).1

-- ---- deltas

pub record FitsDelta (arities picks : List ℕ) (f : Form) (d : Delta) : Type 0 where
  pub now : IsFit arities picks f d.now
  pub up : IsFit arities picks f d.up
  pub down : IsFit arities picks f d.down
  pub next : IsFit arities picks f (after d)

pub delta-fits : (arities picks : List ℕ) (f now up down : Form) → IsFit arities picks f now → IsFit arities picks f up
    → IsFit arities picks f down → FitsDelta arities picks f (delta_by now up down)
delta-fits arities picks f now up down is rises falls = record {
  now = is;
  up = rises;
  down = falls;
  next = sim-cond arities picks f now (simple_not down) up is (sim-not arities picks f down falls) rises;
}

pub delta-wider : (arities picks : List ℕ) (f o : Form) (d : Delta) → ((v : ℕ) → IsFree v f → IsFree v o)
    → FitsDelta arities picks f d → FitsDelta arities picks o d
delta-wider arities picks f o d wider is = record {
  now = fit-wider arities picks f o d.now wider is.now;
  up = fit-wider arities picks f o d.up wider is.up;
  down = fit-wider arities picks f o d.down wider is.down;
  next = fit-wider arities picks f o (after d) wider is.next;
}

widened : (arities picks : List ℕ) (f o : Form) (a : Option Delta) → ((v : ℕ) → IsFree v f → IsFree v o)
    → IfSome a (FitsDelta arities picks f) → IfSome a (FitsDelta arities picks o)
widened arities picks f o a wider is =
    if-then (FitsDelta arities picks f) (FitsDelta arities picks o) a is (λ d at. delta-wider arities picks f o d wider at)

pub unchanged-fits : (arities picks : List ℕ) (f g : Form) → IsFit arities picks f g
    → IfSome (unchanged g) (FitsDelta arities picks f)
unchanged-fits arities picks f g is =
    delta-fits arities picks f g FZero FZero is (fit-zero arities picks f) (fit-zero arities picks f)

negated-fits : (arities picks : List ℕ) (f : Form) (a : Option Delta) → IfSome a (FitsDelta arities picks f)
    → IfSome (negated a) (FitsDelta arities picks f)
negated-fits arities picks f None is = tt
negated-fits arities picks f (Some d) is =
    delta-fits arities picks f (FNot d.now) d.down d.up (fit-not arities picks f d.now is.now) is.down is.up

or-of_ands_fit : (arities picks : List ℕ) (f g x y z : Form) → IsFit arities picks f g → IsFit arities picks f x
    → IsFit arities picks f y → IsFit arities picks f z
    → IsFit arities picks f (simple_or (simple_and g x) (simple_and y z))
or-of_ands_fit arities picks f g x y z a b c d =
    sim-or arities picks f (simple_and g x) (simple_and y z) (sim-and arities picks f g x a b)
    (sim-and arities picks f y z c d)

both-fits : (arities picks : List ℕ) (f : Form) (a b : Option Delta) → IfSome a (FitsDelta arities picks f)
    → IfSome b (FitsDelta arities picks f) → IfSome (both a b) (FitsDelta arities picks f)
both-fits arities picks f None b is it = tt
both-fits arities picks f (Some d) None is it = tt
both-fits arities picks f (Some d) (Some e) is it =
    let up : Form = simple_or (simple_and d.up (after e)) (simple_and (after d) e.up)
    in let down : Form = simple_or (simple_and d.down e.now) (simple_and d.now e.down)
    in if-small_over (FitsDelta arities picks f) (is_small (after d) && is_small (after e)) (delta_by (FAnd d.now e.now) up down)
    (delta-fits arities picks f (FAnd d.now e.now) up down (fit-and arities picks f d.now e.now is.now it.now)
    (or-of_ands_fit arities picks f d.up (after e) (after d) e.up is.up it.next is.next it.up)
    (or-of_ands_fit arities picks f d.down e.now d.now e.down is.down it.now is.now it.down))

either-fits : (arities picks : List ℕ) (f : Form) (a b : Option Delta) → IfSome a (FitsDelta arities picks f)
    → IfSome b (FitsDelta arities picks f) → IfSome (either a b) (FitsDelta arities picks f)
either-fits arities picks f None b is it = tt
either-fits arities picks f (Some d) None is it = tt
either-fits arities picks f (Some d) (Some e) is it =
    let up : Form = simple_or (simple_and d.up (simple_not e.now)) (simple_and (simple_not d.now) e.up)
    in let down : Form = simple_or (simple_and d.down (simple_not (after e))) (simple_and (simple_not (after d)) e.down)
    in if-small_over (FitsDelta arities picks f) (is_small (after d) && is_small (after e)) (delta_by (FOr d.now e.now) up down)
    (delta-fits arities picks f (FOr d.now e.now) up down (fit-or arities picks f d.now e.now is.now it.now)
    (or-of_ands_fit arities picks f d.up (simple_not e.now) (simple_not d.now) e.up is.up
    (sim-not arities picks f e.now it.now) (sim-not arities picks f d.now is.now) it.up)
    (or-of_ands_fit arities picks f d.down (simple_not (after e)) (simple_not (after d)) e.down is.down
    (sim-not arities picks f (after e) it.next) (sim-not arities picks f (after d) is.next) it.down))

some-fits : (arities picks : List ℕ) (v : ℕ) (f : Form) → IsVariable v → (a : Option Delta)
    → IfSome a (FitsDelta arities picks f) → IfSome (some v a) (FitsDelta arities picks (FExists v f))
some-fits arities picks v f variable None is = tt
some-fits arities picks v f variable (Some d) is =
    let o : Form = FExists v f
    in let up : Form = simple_and (simple_exists v d.up) (simple_not (simple_exists v d.now))
    in let down : Form = simple_and (simple_exists v d.down) (simple_not (simple_exists v (after d)))
    in if-small_over (FitsDelta arities picks o) (is_small (after d)) (delta_by (FExists v d.now) up down)
    (delta-fits arities picks o (FExists v d.now) up down (fit-quantified arities picks v f d.now variable is.now).0
    (sim-and arities picks o (simple_exists v d.up) (simple_not (simple_exists v d.now))
    (sim-exists arities picks v f d.up variable is.up)
    (sim-not arities picks o (simple_exists v d.now) (sim-exists arities picks v f d.now variable is.now)))
    (sim-and arities picks o (simple_exists v d.down) (simple_not (simple_exists v (after d)))
    (sim-exists arities picks v f d.down variable is.down)
    (sim-not arities picks o (simple_exists v (after d)) (sim-exists arities picks v f (after d) variable is.next))))

every-fits : (arities picks : List ℕ) (v : ℕ) (f : Form) → IsVariable v → (a : Option Delta)
    → IfSome a (FitsDelta arities picks f) → IfSome (every v a) (FitsDelta arities picks (FExists v f))
every-fits arities picks v f variable None is = tt
every-fits arities picks v f variable (Some d) is =
    let o : Form = FExists v f
    in let up : Form = simple_and (simple_exists v d.up) (simple_forall v (after d))
    in let down : Form = simple_and (simple_exists v d.down) (simple_forall v d.now)
    in if-small_over (FitsDelta arities picks o) (is_small (after d)) (delta_by (FForall v d.now) up down)
    (delta-fits arities picks o (FForall v d.now) up down (fit-quantified arities picks v f d.now variable is.now).1
    (sim-and arities picks o (simple_exists v d.up) (simple_forall v (after d))
    (sim-exists arities picks v f d.up variable is.up) (sim-forall arities picks v f (after d) variable is.next))
    (sim-and arities picks o (simple_exists v d.down) (simple_forall v d.now)
    (sim-exists arities picks v f d.down variable is.down) (sim-forall arities picks v f d.now variable is.now)))

pub own-fit_of : (arities picks : List ℕ) (f : Form) → IsFormulaOver arities f → (¬ NamesNew f) → IsFit arities picks f f
own-fit_of arities picks f fits plain = record { formula = fits; plain = plain; free = λ v t. inl t }

pub delta-of_fits : (arities picks : List ℕ) (affected : List Bool) (atoms : ℕ → List ℕ → Option Delta)
    → ((q : ℕ) (args : List ℕ) → IsFormulaOver arities (FAtom q args)
    → IfSome (atoms q args) (FitsDelta arities picks (FAtom q args)))
    → (f : Form) → IsFormulaOver arities f → (¬ NamesNew f)
    → IfSome (delta_of atoms affected f) (FitsDelta arities picks f)
delta-of_fits arities picks affected atoms each FZero fits plain =
    unchanged-fits arities picks FZero FZero (own-fit_of arities picks FZero fits plain)
delta-of_fits arities picks affected atoms each FOne fits plain =
    unchanged-fits arities picks FOne FOne (own-fit_of arities picks FOne fits plain)
delta-of_fits arities picks affected atoms each (FAtom q vars) fits plain = each q vars fits
delta-of_fits arities picks affected atoms each (FIsNew v) fits plain = absurd (plain tt)
delta-of_fits arities picks affected atoms each (FSame v w) fits plain =
    unchanged-fits arities picks (FSame v w) (FSame v w) (own-fit_of arities picks (FSame v w) fits plain)
delta-of_fits arities picks affected atoms each (FNot f) fits plain =
    widened arities picks f (FNot f) (negated (delta_of atoms affected f)) (λ v t. t)
    (negated-fits arities picks f (delta_of atoms affected f) (delta-of_fits arities picks affected atoms each f fits plain))
delta-of_fits arities picks affected atoms each (FAnd f g) fits plain =
    let o : Form = FAnd f g
    in both-fits arities picks o (delta_of atoms affected f) (delta_of atoms affected g)
    (widened arities picks f o (delta_of atoms affected f) (λ v t. inl t)
    (delta-of_fits arities picks affected atoms each f fits.0 (λ n. plain (inl n))))
    (widened arities picks g o (delta_of atoms affected g) (λ v t. inr t)
    (delta-of_fits arities picks affected atoms each g fits.1 (λ n. plain (inr n))))
delta-of_fits arities picks affected atoms each (FOr f g) fits plain =
    let o : Form = FOr f g
    in either-fits arities picks o (delta_of atoms affected f) (delta_of atoms affected g)
    (widened arities picks f o (delta_of atoms affected f) (λ v t. inl t)
    (delta-of_fits arities picks affected atoms each f fits.0 (λ n. plain (inl n))))
    (widened arities picks g o (delta_of atoms affected g) (λ v t. inr t)
    (delta-of_fits arities picks affected atoms each g fits.1 (λ n. plain (inr n))))
delta-of_fits arities picks affected atoms each (FIff f g) fits plain =
    let o : Form = FIff f g
    in let a : Option Delta = delta_of atoms affected f
    in let b : Option Delta = delta_of atoms affected g
    in let one : IfSome a (FitsDelta arities picks o)
    = widened arities picks f o a (λ v t. inl t)
    (delta-of_fits arities picks affected atoms each f fits.0 (λ n. plain (inl n)))
    in let two : IfSome b (FitsDelta arities picks o)
    = widened arities picks g o b (λ v t. inr t)
    (delta-of_fits arities picks affected atoms each g fits.1 (λ n. plain (inr n)))
    in both-fits arities picks o (either (negated a) b) (either (negated b) a)
    (either-fits arities picks o (negated a) b (negated-fits arities picks o a one) two)
    (either-fits arities picks o (negated b) a (negated-fits arities picks o b two) one)
delta-of_fits arities picks affected atoms each (FCond c f g) fits plain =
    let o : Form = FCond c f g
    in let i : Option Delta = delta_of atoms affected c
    in let a : Option Delta = delta_of atoms affected f
    in let b : Option Delta = delta_of atoms affected g
    in let guard : IfSome i (FitsDelta arities picks o)
    = widened arities picks c o i (λ v t. inl t)
    (delta-of_fits arities picks affected atoms each c fits.0 (λ n. plain (inl n)))
    in let one : IfSome a (FitsDelta arities picks o)
    = widened arities picks f o a (λ v t. inr (inl t))
    (delta-of_fits arities picks affected atoms each f fits.1 (λ n. plain (inr (inl n))))
    in let two : IfSome b (FitsDelta arities picks o)
    = widened arities picks g o b (λ v t. inr (inr t))
    (delta-of_fits arities picks affected atoms each g fits.2 (λ n. plain (inr (inr n))))
    in either-fits arities picks o (both i a) (both (negated i) b)
    (both-fits arities picks o i a guard one)
    (both-fits arities picks o (negated i) b (negated-fits arities picks o i guard) two)
delta-of_fits arities picks affected atoms each (FExists v f) fits plain =
    some-fits arities picks v f fits.0 (delta_of atoms affected f)
    (delta-of_fits arities picks affected atoms each f fits.1 plain)
delta-of_fits arities picks affected atoms each (FForall v f) fits plain =
    widened arities picks (FExists v f) (FForall v f) (every v (delta_of atoms affected f)) (λ x t. t)
    (every-fits arities picks v f fits.0 (delta_of atoms affected f)
    (delta-of_fits arities picks affected atoms each f fits.1 plain))
delta-of_fits arities picks affected atoms each (FClosure from to left right f) fits plain =
    let o : Form = FClosure from to left right f
    in cond_both (touches affected f) None (unchanged o) (λ a. IfSome a (FitsDelta arities picks o)) (λ e. tt)
    (λ e. unchanged-fits arities picks o o (own-fit_of arities picks o fits plain))

-- a free variable of a formula is a variable
pub formula-variable : (arities : List ℕ) (v : ℕ) (f : Form) → IsFormulaOver arities f → IsFree v f → IsVariable v
formula-variable arities v FZero fits free = absurd free
formula-variable arities v FOne fits free = absurd free
formula-variable arities v (FAtom q vars) fits free = All-contains IsVariable vars v fits.1 free
formula-variable arities v (FIsNew w) fits free = subst IsVariable (sym free) fits
formula-variable arities v (FSame w u) fits free =
    ⊎_elim (λ e. subst IsVariable (sym e) fits.0) (λ e. subst IsVariable (sym e) fits.1) free
formula-variable arities v (FNot f) fits free = formula-variable arities v f fits free
formula-variable arities v (FAnd f g) fits free =
    ⊎_elim (formula-variable arities v f fits.0) (formula-variable arities v g fits.1) free
formula-variable arities v (FOr f g) fits free =
    ⊎_elim (formula-variable arities v f fits.0) (formula-variable arities v g fits.1) free
formula-variable arities v (FIff f g) fits free =
    ⊎_elim (formula-variable arities v f fits.0) (formula-variable arities v g fits.1) free
formula-variable arities v (FCond c f g) fits free =
    ⊎_elim (formula-variable arities v c fits.0)
    (λ t. ⊎_elim (formula-variable arities v f fits.1) (formula-variable arities v g fits.2) t) free
formula-variable arities v (FExists w f) fits free = formula-variable arities v f fits.1 free.1
formula-variable arities v (FForall w f) fits free = formula-variable arities v f fits.1 free.1
formula-variable arities v (FClosure from to left right f) fits free =
    ⊎_elim (λ e. subst IsVariable (sym e) fits.0)
    (λ t. ⊎_elim (λ e. subst IsVariable (sym e) fits.1) (λ s. formula-variable arities v f fits.5 s.2) t) free
