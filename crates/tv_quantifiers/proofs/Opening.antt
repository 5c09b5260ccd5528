-- Opening a run: a quantifier whose variable isn't free under it is passed over.
use Rattle.std.proofs.Common.{ℕ, ◌≡◌, ◌≢◌, List, [], ◌∷◌, ◌++◌, refl, ap, sym, subst, ◌∙◌}
use Rattle.tv_kleene.specs.declared.K3.{K3}
use Rattle.tv_kleene.specs.declared.K3.TheVariants.{No, Half, Yes}
use Rattle.tv_kleene.specs.Kleene.{larger_of, smaller_of}
use Rattle.tv_model.specs.Form.{Form, IsFree}
use Rattle.tv_model.specs.Truth.{Assignment, put}
use Rattle.tv_model.specs.Valid.{IsFormulaOver, IsVariable}
use Rattle.tv_model.proofs.Assignments.{put-other}
use Rattle.tv_embedding_laws.specs.LogicalStructure.{LogicalStructure}
use Rattle.tv_eval_laws.specs.Value.{value, greatest_of, least_of}
use Rattle.tv_eval_laws.proofs.Agreed.{only_free_variables_matter}
use Rattle.tv_quantifiers.specs.declared.runs.Level.{Level}
use Rattle.tv_quantifiers.specs.declared.quantifier.Quantifier.{Quantifier}
use Rattle.tv_quantifiers.specs.declared.quantifier.Quantifier.TheVariants.{Exists, Forall}
use Rattle.tv_quantifiers.specs.Quantified.{quantified}
use Rattle.tv_quantifiers.specs.Runs.{AreFresh, IsOpened, under_run, nesting}

under-last : (ls : List Level) (l : Level) (f : Form)
    → under_run (ls ++ l ∷ []) f ≡ under_run ls (quantified l.quantifier l.var.0 f)
under-last [] l f = refl
under-last (x ∷ ls) l f = ap (quantified x.quantifier x.var.0) (under-last ls l f)

fresh-last : (ls : List Level) (l : Level) → AreFresh ls → l.at ≡ 0 → l.found ≡ No → AreFresh (ls ++ l ∷ [])
fresh-last [] l fresh at found = (at, found, tt)
fresh-last (x ∷ ls) l fresh at found = (fresh.0, fresh.1, fresh-last ls l fresh.2 at found)

-- what one stands for doesn't matter
steady : (s : LogicalStructure) (a : Assignment) (v u : ℕ) (f : Form) → (¬ IsFree v f)
    → value s (put a v u) f ≡ value s a f
steady s a v u f free =
    only_free_variables_matter s f (put a v u) a (λ w at. put-other a v u w (λ e. free (subst (λ n. IsFree n f) e at)))

greatest-same : (g : ℕ → K3) (k : K3) (u : ℕ) (us : List ℕ) → ((w : ℕ) → g w ≡ k) → greatest_of g (u ∷ us) ≡ k
greatest-same g k u [] same = rw (same u) (none k)
  where
    none : (x : K3) → larger_of x No ≡ x
    none No = refl
    none Half = refl
    none Yes = refl
greatest-same g k u (w ∷ us) same = rw (same u, greatest-same g k w us same) (twice k)
  where
    twice : (x : K3) → larger_of x x ≡ x
    twice No = refl
    twice Half = refl
    twice Yes = refl

least-same : (g : ℕ → K3) (k : K3) (u : ℕ) (us : List ℕ) → ((w : ℕ) → g w ≡ k) → least_of g (u ∷ us) ≡ k
least-same g k u [] same = rw (same u) (all k)
  where
    all : (x : K3) → smaller_of x Yes ≡ x
    all No = refl
    all Half = refl
    all Yes = refl
least-same g k u (w ∷ us) same = rw (same u, least-same g k w us same) (twice k)
  where
    twice : (x : K3) → smaller_of x x ≡ x
    twice No = refl
    twice Half = refl
    twice Yes = refl

passed-value : (q : Quantifier) (s : LogicalStructure) (a : Assignment) (v u : ℕ) (us : List ℕ) (f : Form)
    → s.individuals ≡ u ∷ us → (¬ IsFree v f) → value s a f ≡ value s a (quantified q v f)
passed-value Exists s a v u us f some free =
    sym (ap (greatest_of (λ w. value s (put a v w) f)) some
    ∙ greatest-same (λ w. value s (put a v w) f) (value s a f) u us (λ w. steady s a v w f free))
passed-value Forall s a v u us f some free =
    sym (ap (least_of (λ w. value s (put a v w) f)) some
    ∙ least-same (λ w. value s (put a v w) f) (value s a f) u us (λ w. steady s a v w f free))

-- one formula under a quantifier may stand for another
alike-under : (q : Quantifier) (s : LogicalStructure) (a : Assignment) (v : ℕ) (f g : Form)
    → ((b : Assignment) → value s b f ≡ value s b g) → value s a (quantified q v f) ≡ value s a (quantified q v g)
alike-under Exists s a v f g same = greatest s.individuals
  where
    greatest : (us : List ℕ) → greatest_of (λ u. value s (put a v u) f) us ≡ greatest_of (λ u. value s (put a v u) g) us
    greatest [] = refl
    greatest (u ∷ us) = rw (same (put a v u), greatest us) refl
alike-under Forall s a v f g same = least s.individuals
  where
    least : (us : List ℕ) → least_of (λ u. value s (put a v u) f) us ≡ least_of (λ u. value s (put a v u) g) us
    least [] = refl
    least (u ∷ us) = rw (same (put a v u), least us) refl

-- and under a run
alike : (s : LogicalStructure) (ls : List Level) (f g : Form) → ((a : Assignment) → value s a f ≡ value s a g)
    → (a : Assignment) → value s a (under_run ls f) ≡ value s a (under_run ls g)
alike s [] f g same a = same a
alike s (l ∷ ls) f g same a =
    alike-under l.quantifier s a l.var.0 (under_run ls f) (under_run ls g) (λ b. alike s ls f g same b)

-- what holds of a formula under a quantifier
pub free-under : (q : Quantifier) (w v : ℕ) (f : Form) → IsFree v (quantified q w f) → (v ≢ w) × IsFree v f
free-under Exists w v f free = free
free-under Forall w v f free = free

pub free-over : (q : Quantifier) (w v : ℕ) (f : Form) → (v ≢ w) × IsFree v f → IsFree v (quantified q w f)
free-over Exists w v f free = free
free-over Forall w v f free = free

pub formula-under : (q : Quantifier) (arities : List ℕ) (v : ℕ) (f : Form) → IsFormulaOver arities (quantified q v f)
    → IsVariable v × IsFormulaOver arities f
formula-under Exists arities v f is = is
formula-under Forall arities v f is = is

pub formula-over : (q : Quantifier) (arities : List ℕ) (v : ℕ) (f : Form) → IsVariable v × IsFormulaOver arities f
    → IsFormulaOver arities (quantified q v f)
formula-over Exists arities v f is = is
formula-over Forall arities v f is = is

pub nesting-under : (q : Quantifier) (v : ℕ) (f : Form) → nesting (quantified q v f) ≡ nesting f
nesting-under Exists v f = refl
nesting-under Forall v f = refl

nesting-run : (ls : List Level) (f : Form) → nesting (under_run ls f) ≡ nesting f
nesting-run [] f = refl
nesting-run (l ∷ ls) f = nesting-under l.quantifier l.var.0 (under_run ls f) ∙ nesting-run ls f

free-run : (ls : List Level) (v : ℕ) (f g : Form) → (IsFree v f → IsFree v g) → IsFree v (under_run ls f) → IsFree v (under_run ls g)
free-run [] v f g into free = into free
free-run (l ∷ ls) v f g into free =
    let inner : (v ≢ l.var.0) × IsFree v (under_run ls f) = free-under l.quantifier l.var.0 v (under_run ls f) free
    in free-over l.quantifier l.var.0 v (under_run ls g) (inner.0, free-run ls v f g into inner.1)

over-run : (ls : List Level) (arities : List ℕ) (f g : Form) → (IsFormulaOver arities f → IsFormulaOver arities g)
    → IsFormulaOver arities (under_run ls f) → IsFormulaOver arities (under_run ls g)
over-run [] arities f g into is = into is
over-run (l ∷ ls) arities f g into is =
    let inner : IsVariable l.var.0 × IsFormulaOver arities (under_run ls f) = formula-under l.quantifier arities l.var.0 (under_run ls f) is
    in formula-over l.quantifier arities l.var.0 (under_run ls g) (inner.0, over-run ls arities f g into inner.1)

-- nothing is opened yet
pub opened_none : (whole : Form) → IsOpened whole [] whole
opened_none whole = record {
  fresh = tt;
  values = λ s a u us some. refl;
  free = λ v free. free;
  over = λ arities is. is;
  closures = refl;
}

-- one quantifier more
pub opened_more : (whole : Form) (ls : List Level) (l : Level) (f : Form) → l.at ≡ 0 → l.found ≡ No
    → IsOpened whole ls (quantified l.quantifier l.var.0 f) → IsOpened whole (ls ++ l ∷ []) f
opened_more whole ls l f at found is =
    let e : under_run ls (quantified l.quantifier l.var.0 f) ≡ under_run (ls ++ l ∷ []) f = sym (under-last ls l f)
    in record {
      fresh = fresh-last ls l is.fresh at found;
      values = λ s a u us some. subst (λ h. value s a h ≡ value s a whole) e (is.values s a u us some);
      free = λ v free. is.free v (subst (λ h. IsFree v h) (sym e) free);
      over = λ arities fits. subst (λ h. IsFormulaOver arities h) e (is.over arities fits);
      closures = subst (λ h. nesting h ≡ nesting whole) e is.closures;
    }

-- one that is passed over
pub opened_past : (whole : Form) (ls : List Level) (q : Quantifier) (v : ℕ) (f : Form) → (¬ IsFree v f)
    → IsOpened whole ls (quantified q v f) → IsOpened whole ls f
opened_past whole ls q v f free is = record {
  fresh = is.fresh;
  values = λ s a u us some.
      alike s ls f (quantified q v f) (λ b. passed-value q s b v u us f some free) a ∙ is.values s a u us some;
  free = λ w at. is.free w (free-run ls w f (quantified q v f)
      (λ inner. free-over q v w f (λ e. free (subst (λ n. IsFree n f) e inner), inner)) at);
  over = λ arities fits. over-run ls arities (quantified q v f) f (λ whole. (formula-under q arities v f whole).1) (is.over arities fits);
  closures = nesting-run ls f ∙ sym (nesting-under q v f) ∙ sym (nesting-run ls (quantified q v f)) ∙ is.closures;
}
