-- A run over a formula that falls apart: each part may be moved inwards to the innermost quantifier whose variable
-- it speaks of.
use Rattle.std.proofs.Common.{ℕ, ◌≡◌, ◌<◌, ◌≤◌, ◌+◌, Bool, true, false, not, ◌&&◌, ◌||◌}
use Rattle.std.proofs.Common.{suc, zero}
use Rattle.std.proofs.Common.{List, [], ◌∷◌, ◌++◌, refl, sym, ap, subst, ◌∙◌, arith}
use Rattle.std.specs.Prelude.{if◌then◌else◌}
use Rattle.std.specs.List.{range_with_len}
use Rattle.std.proofs.lemmas.Bool.{false≢true}
use Rattle.tv_kleene.specs.declared.K3.{K3}
use Rattle.tv_kleene.specs.declared.K3.TheVariants.{No, Half, Yes}
use Rattle.tv_kleene.specs.Kleene.{smaller_of, larger_of, negation_of}
use Rattle.tv_kleene.proofs.Lattice.{smaller-assoc, smaller-yes, smaller-no}
use Rattle.tv_model.specs.Form.{Form, FZero, FOne, FAtom, FIsNew, FSame, FNot, FAnd, FOr, FIff, FCond}
use Rattle.tv_model.specs.Form.{FExists, FForall, FClosure, IsFree}
use Rattle.tv_model.specs.Truth.{Assignment, put}
use Rattle.tv_model.proofs.Assignments.{put-other}
use Rattle.tv_embedding_laws.specs.LogicalStructure.{LogicalStructure}
use Rattle.tv_eval_laws.specs.Value.{value, greatest_of, least_of}
use Rattle.tv_eval_laws.proofs.Agreed.{only_free_variables_matter}
use Rattle.tv_quantifiers.specs.declared.quantifier.Quantifier.{Quantifier}
use Rattle.tv_quantifiers.specs.declared.quantifier.Quantifier.TheVariants.{Exists, Forall}
use Rattle.tv_quantifiers.specs.declared.runs.Level.{Level}
use Rattle.tv_quantifiers.specs.Quantified.{quantified, turned}
use Rattle.tv_quantifiers.specs.Runs.{under_run}
use Rattle.tv_model.specs.Free.{is_free}
use Rattle.tv_quantifiers.specs.Chains.{Signed, across, best, is_outside, is_taken}
use Rattle.tv_quantifiers.specs.Chains.{least_part}
use Rattle.tv_quantifiers.specs.Chains.{parts_of, pushed}
use Rattle.tv_model.proofs.FreeTests.{from-free}
use Rattle.tv_quantifiers.proofs.Quantifying.{quantified-value, turned-twice, greatest-negated}

-- ---- the least value

pub smaller-swap : (x y z : K3) → smaller_of x (smaller_of y z) ≡ smaller_of y (smaller_of x z)
smaller-swap No No z = refl
smaller-swap No Half No = refl
smaller-swap No Half Half = refl
smaller-swap No Half Yes = refl
smaller-swap No Yes z = refl
smaller-swap Half No z = refl
smaller-swap Half Half z = refl
smaller-swap Half Yes z = refl
smaller-swap Yes y z = refl

smaller-larger : (k x y : K3) → larger_of (smaller_of k x) (smaller_of k y) ≡ smaller_of k (larger_of x y)
smaller-larger No x y = refl
smaller-larger Half No y = refl
smaller-larger Half Half No = refl
smaller-larger Half Half Half = refl
smaller-larger Half Half Yes = refl
smaller-larger Half Yes No = refl
smaller-larger Half Yes Half = refl
smaller-larger Half Yes Yes = refl
smaller-larger Yes x y = refl

smaller-both : (k x y : K3) → smaller_of (smaller_of k x) (smaller_of k y) ≡ smaller_of k (smaller_of x y)
smaller-both No x y = refl
smaller-both Half No y = refl
smaller-both Half Half No = refl
smaller-both Half Half Half = refl
smaller-both Half Half Yes = refl
smaller-both Half Yes No = refl
smaller-both Half Yes Half = refl
smaller-both Half Yes Yes = refl
smaller-both Yes x y = refl

negated-larger : (x y : K3) → smaller_of (negation_of x) (negation_of y) ≡ negation_of (larger_of x y)
negated-larger No No = refl
negated-larger No Half = refl
negated-larger No Yes = refl
negated-larger Half No = refl
negated-larger Half Half = refl
negated-larger Half Yes = refl
negated-larger Yes y = refl

-- ---- the best value

greatest-alike : (g h : ℕ → K3) (us : List ℕ) → ((u : ℕ) → g u ≡ h u) → greatest_of g us ≡ greatest_of h us
greatest-alike g h [] same = refl
greatest-alike g h (u ∷ us) same = ap (λ x. larger_of x (greatest_of g us)) (same u) ∙ ap (larger_of (h u)) (greatest-alike g h us same)

pub best-alike : (q : Quantifier) (g h : ℕ → K3) (us : List ℕ) → ((u : ℕ) → g u ≡ h u) → best q g us ≡ best q h us
best-alike q g h us same = ap (turned q) (greatest-alike (λ u. turned q (g u)) (λ u. turned q (h u)) us (λ u. ap (turned q) (same u)))

greatest-within : (g h : ℕ → K3) (a m n : ℕ) → a + m ≤ n → ((u : ℕ) → u < n → g u ≡ h u)
    → greatest_of g (range_with_len a m) ≡ greatest_of h (range_with_len a m)
greatest-within g h a zero n le same = refl
greatest-within g h a (suc m) n le same =
    ap (λ x. larger_of x (greatest_of g (range_with_len (a + 1) m))) (same a (omega arith))
    ∙ ap (larger_of (h a)) (greatest-within g h (a + 1) m n (omega arith) same)

-- it is enough that the values at the individuals are the same
pub best-within : (q : Quantifier) (g h : ℕ → K3) (n : ℕ) → ((u : ℕ) → u < n → g u ≡ h u)
    → best q g (range_with_len 0 n) ≡ best q h (range_with_len 0 n)
best-within q g h n same =
    ap (turned q) (greatest-within (λ u. turned q (g u)) (λ u. turned q (h u)) 0 n n (omega arith) (λ u lt. ap (turned q) (same u lt)))

greatest-front : (k : K3) (h : ℕ → K3) (us : List ℕ) → greatest_of (λ u. smaller_of k (h u)) us ≡ smaller_of k (greatest_of h us)
greatest-front k h [] = sym (smaller-no k)
greatest-front k h (u ∷ us) =
    ap (larger_of (smaller_of k (h u))) (greatest-front k h us) ∙ smaller-larger k (h u) (greatest_of h us)

least-front : (k : K3) (h : ℕ → K3) (u : ℕ) (us : List ℕ)
    → least_of (λ w. smaller_of k (h w)) (u ∷ us) ≡ smaller_of k (least_of h (u ∷ us))
least-front k h u [] = smaller-assoc k (h u) Yes
least-front k h u (w ∷ us) =
    ap (smaller_of (smaller_of k (h u))) (least-front k h w us) ∙ smaller-both k (h u) (least_of h (w ∷ us))

-- what doesn't depend on the individual goes in front, if there is an individual
best-front : (q : Quantifier) (k : K3) (h : ℕ → K3) (u : ℕ) (us : List ℕ)
    → best q (λ w. smaller_of k (h w)) (u ∷ us) ≡ smaller_of k (best q h (u ∷ us))
best-front Exists k h u us = greatest-front k h (u ∷ us)
best-front Forall k h u us =
    greatest-negated (λ w. smaller_of k (h w)) (u ∷ us) ∙ least-front k h u us
    ∙ ap (smaller_of k) (sym (greatest-negated h (u ∷ us)))

across-inside : (sign q : Quantifier) (x : K3) → turned q x ≡ turned (across sign q) (turned sign x)
across-inside Exists q x = refl
across-inside Forall Exists x = sym (turned-twice Forall x)
across-inside Forall Forall x = refl

across-outside : (sign q : Quantifier) (x : K3) → turned sign (turned q x) ≡ turned (across sign q) x
across-outside Exists q x = refl
across-outside Forall Exists x = refl
across-outside Forall Forall x = turned-twice Forall x

-- a negation passes a quantifier, which becomes the other one
best-across : (sign q : Quantifier) (g : ℕ → K3) (us : List ℕ)
    → turned sign (turned q (greatest_of (λ u. turned q (g u)) us)) ≡ best (across sign q) (λ u. turned sign (g u)) us
best-across sign q g us =
    across-outside sign q (greatest_of (λ u. turned q (g u)) us)
    ∙ ap (turned (across sign q)) (greatest-alike (λ u. turned q (g u))
    (λ u. turned (across sign q) (turned sign (g u))) us (λ u. across-inside sign q (g u)))

-- ---- the parts

pub least-append : (chosen : Form → Bool) (s : LogicalStructure) (a : Assignment) (ps qs : List Signed)
    → least_part chosen s a (ps ++ qs) ≡ smaller_of (least_part chosen s a ps) (least_part chosen s a qs)
least-append chosen s a [] qs = refl
least-append chosen s a (p ∷ ps) qs =
    ap (smaller_of own) (least-append chosen s a ps qs)
    ∙ sym (smaller-assoc own (least_part chosen s a ps) (least_part chosen s a qs))
  where
    own : K3
    own = if chosen p.form then turned p.sign (value s a p.form) else Yes

-- the least value of all parts is the formula's
parts-value : (sign : Quantifier) (f : Form) (s : LogicalStructure) (a : Assignment)
    → least_part (is_outside []) s a (parts_of sign f) ≡ turned sign (value s a f)
parts-value Exists FZero s a = smaller-yes (turned Exists (value s a FZero))
parts-value Exists FOne s a = smaller-yes (turned Exists (value s a FOne))
parts-value Exists (FAtom q vars) s a = smaller-yes (turned Exists (value s a (FAtom q vars)))
parts-value Exists (FIsNew v) s a = smaller-yes (turned Exists (value s a (FIsNew v)))
parts-value Exists (FSame v w) s a = smaller-yes (turned Exists (value s a (FSame v w)))
parts-value Exists (FNot f) s a = parts-value Forall f s a
parts-value Exists (FAnd f g) s a = least-append (is_outside []) s a (parts_of Exists f) (parts_of Exists g) ∙ ap (λ x. smaller_of x (least_part (is_outside []) s a (parts_of Exists g))) (parts-value Exists f s a) ∙ ap (smaller_of (value s a f)) (parts-value Exists g s a)
parts-value Exists (FOr f g) s a = smaller-yes (turned Exists (value s a (FOr f g)))
parts-value Exists (FIff f g) s a = smaller-yes (turned Exists (value s a (FIff f g)))
parts-value Exists (FCond c f g) s a = smaller-yes (turned Exists (value s a (FCond c f g)))
parts-value Exists (FExists v f) s a = smaller-yes (turned Exists (value s a (FExists v f)))
parts-value Exists (FForall v f) s a = smaller-yes (turned Exists (value s a (FForall v f)))
parts-value Exists (FClosure from to left right f) s a = smaller-yes (turned Exists (value s a (FClosure from to left right f)))
parts-value Forall FZero s a = smaller-yes (turned Forall (value s a FZero))
parts-value Forall FOne s a = smaller-yes (turned Forall (value s a FOne))
parts-value Forall (FAtom q vars) s a = smaller-yes (turned Forall (value s a (FAtom q vars)))
parts-value Forall (FIsNew v) s a = smaller-yes (turned Forall (value s a (FIsNew v)))
parts-value Forall (FSame v w) s a = smaller-yes (turned Forall (value s a (FSame v w)))
parts-value Forall (FNot f) s a = parts-value Exists f s a ∙ sym (turned-twice Forall (value s a f))
parts-value Forall (FAnd f g) s a = smaller-yes (turned Forall (value s a (FAnd f g)))
parts-value Forall (FOr f g) s a = least-append (is_outside []) s a (parts_of Forall f) (parts_of Forall g) ∙ ap (λ x. smaller_of x (least_part (is_outside []) s a (parts_of Forall g))) (parts-value Forall f s a) ∙ ap (smaller_of (negation_of (value s a f))) (parts-value Forall g s a) ∙ negated-larger (value s a f) (value s a g)
parts-value Forall (FIff f g) s a = smaller-yes (turned Forall (value s a (FIff f g)))
parts-value Forall (FCond c f g) s a = smaller-yes (turned Forall (value s a (FCond c f g)))
parts-value Forall (FExists v f) s a = smaller-yes (turned Forall (value s a (FExists v f)))
parts-value Forall (FForall v f) s a = smaller-yes (turned Forall (value s a (FForall v f)))
parts-value Forall (FClosure from to left right f) s a = smaller-yes (turned Forall (value s a (FClosure from to left right f)))

-- ---- a run

outside-cases : (free outside : Bool) (x y r t : K3) → (free ≡ false → x ≡ y)
    → smaller_of (if outside then x else Yes) (smaller_of r t)
    ≡ smaller_of (smaller_of (if not free && outside then y else Yes) r)
    (smaller_of (if (false || free) && outside then x else Yes) t)
outside-cases true true x y r t same = smaller-swap x r t
outside-cases false true x y r t same =
    ap (λ z. smaller_of z (smaller_of r t)) (same refl) ∙ sym (smaller-assoc y r t)
outside-cases true false x y r t same = refl
outside-cases false false x y r t same = refl

not-free : (v : ℕ) (f : Form) → is_free v f ≡ false → ¬ IsFree v f
not-free v f apart at = false≢true (sym apart ∙ from-free v f at)

-- a value doesn't depend on what isn't free
steady : (s : LogicalStructure) (a : Assignment) (v u : ℕ) (f : Form) → (¬ IsFree v f)
    → value s (put a v u) f ≡ value s a f
steady s a v u f none =
    only_free_variables_matter s f (put a v u) a (λ w at. put-other a v u w (λ e. none (subst (λ n. IsFree n f) e at)))

-- the parts that speak of no variable behind l: those that don't speak of l's either, and the others
outside-split : (s : LogicalStructure) (a : Assignment) (l : Level) (ls : List Level) (u : ℕ) (ps : List Signed)
    → least_part (is_outside ls) s (put a l.var.0 u) ps
    ≡ smaller_of (least_part (is_outside (l ∷ ls)) s a ps) (least_part (is_taken false l.var.0 ls) s (put a l.var.0 u) ps)
outside-split s a l ls u [] = refl
outside-split s a l ls u (p ∷ ps) =
    ap (smaller_of (if is_outside ls p.form then turned p.sign (value s (put a l.var.0 u) p.form) else Yes))
    (outside-split s a l ls u ps)
    ∙ outside-cases (is_free l.var.0 p.form) (is_outside ls p.form)
    (turned p.sign (value s (put a l.var.0 u) p.form)) (turned p.sign (value s a p.form))
    (least_part (is_outside (l ∷ ls)) s a ps) (least_part (is_taken false l.var.0 ls) s (put a l.var.0 u) ps)
    (λ apart. ap (turned p.sign) (steady s a l.var.0 u p.form (not-free l.var.0 p.form apart)))

module _ (sign : Quantifier) (f : Form) (s : LogicalStructure) (u : ℕ) (us : List ℕ) (some : s.individuals ≡ u ∷ us) where
  -- the value of a quantifier of a run
  whole-at : (a : Assignment) (l : Level) (g : Form)
      → turned sign (value s a (quantified l.quantifier l.var.0 g))
      ≡ best (across sign l.quantifier) (λ w. turned sign (value s (put a l.var.0 w) g)) s.individuals
  whole-at a l g =
      ap (turned sign) (sym (quantified-value l.quantifier s a l.var.0 g))
      ∙ best-across sign l.quantifier (λ w. value s (put a l.var.0 w) g) s.individuals

  -- the value of a run: the parts that speak of none of its variables, and the others moved inwards
  pub pushed-whole : (ls : List Level) (a : Assignment)
      → turned sign (value s a (under_run ls f))
      ≡ smaller_of (least_part (is_outside ls) s a (parts_of sign f)) (pushed sign s a ls (parts_of sign f))
  pushed-whole [] a = sym (smaller-yes (least_part (is_outside []) s a (parts_of sign f)) ∙ parts-value sign f s a)
  pushed-whole (l ∷ ls) a =
      let q : Quantifier = across sign l.quantifier
      in let v : ℕ = l.var.0
      in let front : K3 = least_part (is_outside (l ∷ ls)) s a (parts_of sign f)
      in let here : ℕ → K3 = λ w. least_part (is_taken false v ls) s (put a v w) (parts_of sign f)
      in let rest : ℕ → K3 = λ w. pushed sign s (put a v w) ls (parts_of sign f)
      in whole-at a l (under_run ls f)
      ∙ best-alike q (λ w. turned sign (value s (put a v w) (under_run ls f)))
      (λ w. smaller_of front (smaller_of (here w) (rest w))) s.individuals
      (λ w. pushed-whole ls (put a v w)
      ∙ ap (λ x. smaller_of x (rest w)) (outside-split s a l ls w (parts_of sign f))
      ∙ smaller-assoc front (here w) (rest w))
      ∙ ap (best q (λ w. smaller_of front (smaller_of (here w) (rest w)))) some
      ∙ best-front q front (λ w. smaller_of (here w) (rest w)) u us
      ∙ ap (λ vs. smaller_of front (best q (λ w. smaller_of (here w) (rest w)) vs)) (sym some)

  -- the same at the first quantifier, which takes the parts that speak of none, too
  pub pushed-first : (l : Level) (ls : List Level) (a : Assignment)
      → turned sign (value s a (under_run (l ∷ ls) f))
      ≡ best (across sign l.quantifier) (λ w. smaller_of
      (least_part (is_taken true l.var.0 ls) s (put a l.var.0 w) (parts_of sign f))
      (pushed sign s (put a l.var.0 w) ls (parts_of sign f))) s.individuals
  pushed-first l ls a =
      whole-at a l (under_run ls f)
      ∙ best-alike (across sign l.quantifier) (λ w. turned sign (value s (put a l.var.0 w) (under_run ls f)))
      (λ w. smaller_of (least_part (is_taken true l.var.0 ls) s (put a l.var.0 w) (parts_of sign f))
      (pushed sign s (put a l.var.0 w) ls (parts_of sign f))) s.individuals
      (λ w. pushed-whole ls (put a l.var.0 w)
      ∙ ap (λ x. smaller_of x (pushed sign s (put a l.var.0 w) ls (parts_of sign f)))
      (least-alike (is_outside ls) (is_taken true l.var.0 ls) s (put a l.var.0 w) (parts_of sign f) (λ g. refl)))
    where
      least-alike : (c d : Form → Bool) (s : LogicalStructure) (a : Assignment) (ps : List Signed) → ((g : Form) → c g ≡ d g)
          → least_part c s a ps ≡ least_part d s a ps
      least-alike c d s a [] same = refl
      least-alike c d s a (p ∷ ps) same =
          ap (λ b. smaller_of (if b then turned p.sign (value s a p.form) else Yes) (least_part c s a ps)) (same p.form)
          ∙ ap (smaller_of (if d p.form then turned p.sign (value s a p.form) else Yes)) (least-alike c d s a ps same)
