-- What conjuncts carry of their formula.
use Rattle.std.proofs.Common.{ℕ, ◌≡◌, ◌≤◌, List, [], ◌∷◌, ◌++◌, inl, inr, All, arith}
use Rattle.std.proofs.lemmas.List.Elements.{All-nil, All-cons, All-append, All-head, All-tail}
use Rattle.tv_kleene.proofs.Lattice.{both-yes, yes-both}
use Rattle.tv_kleene.specs.declared.K3.TheVariants.{Yes}
use Rattle.tv_model.specs.Form.{Form, FZero, FOne, FAtom, FIsNew, FSame, FNot, FAnd, FOr, FIff, FCond}
use Rattle.tv_model.specs.Form.{FExists, FForall, FClosure, IsFree, height}
use Rattle.tv_model.specs.Valid.{IsFormulaOver}
use Rattle.tv_eval_laws.specs.Value.{value}
use Rattle.tv_rules.specs.Closing.{conjuncts}
use Rattle.tv_rules.specs.Laws.{ConjunctsCarryFormulas}
use Rattle.tv_rules.proofs.MetByHeaps.{All-first}

-- what goes from conjunctions to their parts goes to the conjuncts
each-conjunct : (P : Form → Type 0) → ((f g : Form) → P (FAnd f g) → P f × P g) → (f : Form) → P f → All P (conjuncts f)
each-conjunct P parts (FAnd f g) k =
    let both : P f × P g = parts f g k
    in All-append P (conjuncts f) (conjuncts g) (each-conjunct P parts f both.0) (each-conjunct P parts g both.1)
each-conjunct P parts FZero k = All-cons P FZero [] k (All-nil P)
each-conjunct P parts FOne k = All-cons P FOne [] k (All-nil P)
each-conjunct P parts (FAtom p vars) k = All-cons P (FAtom p vars) [] k (All-nil P)
each-conjunct P parts (FIsNew v) k = All-cons P (FIsNew v) [] k (All-nil P)
each-conjunct P parts (FSame v w) k = All-cons P (FSame v w) [] k (All-nil P)
each-conjunct P parts (FNot f) k = All-cons P (FNot f) [] k (All-nil P)
each-conjunct P parts (FOr f g) k = All-cons P (FOr f g) [] k (All-nil P)
each-conjunct P parts (FIff f g) k = All-cons P (FIff f g) [] k (All-nil P)
each-conjunct P parts (FCond c f g) k = All-cons P (FCond c f g) [] k (All-nil P)
each-conjunct P parts (FExists v f) k = All-cons P (FExists v f) [] k (All-nil P)
each-conjunct P parts (FForall v f) k = All-cons P (FForall v f) [] k (All-nil P)
each-conjunct P parts (FClosure from to left right f) k = All-cons P (FClosure from to left right f) [] k (All-nil P)

All-last : {X : Type 0} (P : X → Type 0) (xs ys : List X) → All P (xs ++ ys) → All P ys
All-last P [] ys all = all
All-last P (x ∷ xs) ys all = All-last P xs ys (All-tail P x (xs ++ ys) all)

-- what goes from parts to conjunctions comes from the conjuncts
pub from-conjuncts : (P : Form → Type 0) → ((f g : Form) → P f → P g → P (FAnd f g)) → (f : Form) → All P (conjuncts f) → P f
from-conjuncts P both (FAnd f g) all =
    both f g (from-conjuncts P both f (All-first P (conjuncts f) (conjuncts g) all))
    (from-conjuncts P both g (All-last P (conjuncts f) (conjuncts g) all))
from-conjuncts P both FZero all = All-head P FZero [] all
from-conjuncts P both FOne all = All-head P FOne [] all
from-conjuncts P both (FAtom p vars) all = All-head P (FAtom p vars) [] all
from-conjuncts P both (FIsNew v) all = All-head P (FIsNew v) [] all
from-conjuncts P both (FSame v w) all = All-head P (FSame v w) [] all
from-conjuncts P both (FNot f) all = All-head P (FNot f) [] all
from-conjuncts P both (FOr f g) all = All-head P (FOr f g) [] all
from-conjuncts P both (FIff f g) all = All-head P (FIff f g) [] all
from-conjuncts P both (FCond c f g) all = All-head P (FCond c f g) [] all
from-conjuncts P both (FExists v f) all = All-head P (FExists v f) [] all
from-conjuncts P both (FForall v f) all = All-head P (FForall v f) [] all
from-conjuncts P both (FClosure from to left right f) all = All-head P (FClosure from to left right f) [] all

pub conjuncts_carry_formulas : ConjunctsCarryFormulas
conjuncts_carry_formulas f = record {
  yes = λ s a. (
    each-conjunct (λ g. value s a g ≡ Yes) (λ g h k. both-yes (value s a g) (value s a h) k) f,
    from-conjuncts (λ g. value s a g ≡ Yes) (λ g h k l. yes-both (value s a g) (value s a h) k l) f,
  );
  free = each-conjunct (λ g. (v : ℕ) → IsFree v g → IsFree v f)
      (λ g h k. (λ v free. k v (inl free), λ v free. k v (inr free))) f (λ v free. free);
  formulas = λ arities is. each-conjunct (IsFormulaOver arities) (λ g h k. k) f is;
  heights = each-conjunct (λ g. height g ≤ height f) (λ g h k. (left g h k, right g h k)) f (omega arith);
}
  where
    left : (g h : Form) → height (FAnd g h) ≤ height f → height g ≤ height f
    left g h k = omega (arith, k)

    right : (g h : Form) → height (FAnd g h) ≤ height f → height h ≤ height f
    right g h k = omega (arith, k)
