-- A split keeps the values of formulas without equality, and it is stable where what it splits is.
use Rattle.std.proofs.Common.{ℕ, ◌≡◌, ◌≢◌, Bool, true, false, List, [], ◌∷◌, map, inl, inr, ⊎_elim, refl, sym}
use Rattle.std.proofs.Common.{ap, subst, ◌∙◌, Contains}
use Rattle.tv_kleene.specs.declared.K3.TheVariants.{No, Yes}
use Rattle.tv_kleene.specs.Kleene.{LiesUnder, negation_of}
use Rattle.tv_model.specs.Form.{Form, FZero, FOne, FAtom, FIsNew, FSame, FNot, FAnd, FOr, FIff, FCond}
use Rattle.tv_model.specs.Form.{FExists, FForall, FClosure, IsFree, Mentions}
use Rattle.tv_model.specs.Program.{HeadForm, HNever, HAtom, HSame, RuleForm}
use Rattle.tv_model.specs.Rules.{IsInHead}
use Rattle.tv_model.specs.Truth.{Assignment, put}
use Rattle.tv_model.specs.Valid.{NamesNew}
use Rattle.tv_embedding_laws.specs.LogicalStructure.{LogicalStructure}
use Rattle.tv_eval_laws.specs.Value.{value}
use Rattle.tv_kleene.proofs.Lattice.{LiesUnder-antisym}
use Rattle.tv_kleene.proofs.Thresholds.{Under, Under-refl, Under-from_LiesUnder, LiesUnder-from_Under}
use Rattle.tv_kleene.proofs.Thresholds.{Under-negation, Under-smaller, Under-larger}
use Rattle.tv_model.specs.Rules.{IsFreeInRule, head_formula}
use Rattle.tv_model.proofs.Assignments.{put-matched, map-images, All-values}
use Rattle.tv_model.proofs.Lists.{Contains-here}
use Rattle.tv_model.proofs.Walks.{IsTotal}
use Rattle.tv_eval_laws.proofs.Embedded.{GoesTo}
use Rattle.tv_eval_laws.proofs.Folds.{Under-greatest, Under-least}
use Rattle.tv_eval_laws.proofs.Matched.{Under-iff, Under-cond}
use Rattle.tv_eval_laws.proofs.Walks.{Under-best_walk}
use Rattle.tv_stable_laws.specs.Stable.{MayStayHalf, IsStableUnder, IsTwice}
use Rattle.tv_rules.specs.Standing.{StandsIn, IsHeadOf, HasEquality, HasEqualityIn, IsEquality}
use Rattle.tv_coerce_laws.specs.Split.{KeepsValues, KeepsRuleValues, IsRuleOfAtoms, KeepsSummaries}
use Rattle.tv_coerce_laws.specs.Laws.{SplitsKeepValues, SplitsAreStable, SplitsOfSummariesAreStable}

-- the individuals of s and of t are matched, so that the predicates of P have in s values that lie under
-- those in t
record Paired (P : ℕ → Type 0) (M : ℕ → ℕ → Type 0) (s t : LogicalStructure) : Type 0 where
  there : IsTotal M s.individuals t.individuals
  back : IsTotal (λ w u. M u w) t.individuals s.individuals
  atoms : (pred : ℕ) → P pred → (vars : List ℕ) (a b : Assignment) → ((v : ℕ) → Contains vars v → M (a v) (b v))
      → LiesUnder (s.value pred (map a vars)) (t.value pred (map b vars))

plain-under : (P : ℕ → Type 0) (M : ℕ → ℕ → Type 0) (s t : LogicalStructure) → Paired P M s t
    → (a b : Assignment) (f : Form) → ((q : ℕ) → Mentions q f → P q) → ¬ HasEquality f → ¬ NamesNew f
    → ((v : ℕ) → IsFree v f → M (a v) (b v)) → Under (value s a f) (value t b f)
plain-under P M s t is a b FZero mentioned same new free = Under-refl No
plain-under P M s t is a b FOne mentioned same new free = Under-refl Yes
plain-under P M s t is a b (FAtom q vars) mentioned same new free =
    Under-from_LiesUnder (s.value q (map a vars)) (t.value q (map b vars)) (is.atoms q (mentioned q refl) vars a b free)
plain-under P M s t is a b (FIsNew v) mentioned same new free = absurd (new tt)
plain-under P M s t is a b (FSame v w) mentioned same new free = absurd (same tt)
plain-under P M s t is a b (FNot f) mentioned same new free =
    Under-negation (value s a f) (value t b f) (plain-under P M s t is a b f mentioned same new free)
plain-under P M s t is a b (FAnd f g) mentioned same new free =
    Under-smaller (value s a f) (value t b f) (value s a g) (value t b g)
    (plain-under P M s t is a b f (λ q m. mentioned q (inl m)) (λ n. same (inl n)) (λ n. new (inl n)) (λ v m. free v (inl m)))
    (plain-under P M s t is a b g (λ q m. mentioned q (inr m)) (λ n. same (inr n)) (λ n. new (inr n)) (λ v m. free v (inr m)))
plain-under P M s t is a b (FOr f g) mentioned same new free =
    Under-larger (value s a f) (value t b f) (value s a g) (value t b g)
    (plain-under P M s t is a b f (λ q m. mentioned q (inl m)) (λ n. same (inl n)) (λ n. new (inl n)) (λ v m. free v (inl m)))
    (plain-under P M s t is a b g (λ q m. mentioned q (inr m)) (λ n. same (inr n)) (λ n. new (inr n)) (λ v m. free v (inr m)))
plain-under P M s t is a b (FIff f g) mentioned same new free =
    Under-iff (value s a f) (value t b f) (value s a g) (value t b g)
    (plain-under P M s t is a b f (λ q m. mentioned q (inl m)) (λ n. same (inl n)) (λ n. new (inl n)) (λ v m. free v (inl m)))
    (plain-under P M s t is a b g (λ q m. mentioned q (inr m)) (λ n. same (inr n)) (λ n. new (inr n)) (λ v m. free v (inr m)))
plain-under P M s t is a b (FCond c f g) mentioned same new free =
    Under-cond (value s a c) (value t b c) (value s a f) (value t b f) (value s a g) (value t b g)
    (plain-under P M s t is a b c (λ q m. mentioned q (inl m)) (λ n. same (inl n)) (λ n. new (inl n)) (λ v m. free v (inl m)))
    (plain-under P M s t is a b f (λ q m. mentioned q (inr (inl m))) (λ n. same (inr (inl n))) (λ n. new (inr (inl n))) (λ v m. free v (inr (inl m))))
    (plain-under P M s t is a b g (λ q m. mentioned q (inr (inr m))) (λ n. same (inr (inr n))) (λ n. new (inr (inr n))) (λ v m. free v (inr (inr m))))
plain-under P M s t is a b (FExists v f) mentioned same new free =
    Under-greatest M s.individuals t.individuals is.there is.back (λ u. value s (put a v u) f) (λ w. value t (put b v w) f)
    (λ u w m. plain-under P M s t is (put a v u) (put b v w) f mentioned same new
    (put-matched (λ x. IsFree x f) M a b v u w m free))
plain-under P M s t is a b (FForall v f) mentioned same new free =
    Under-least M s.individuals t.individuals is.there is.back (λ u. value s (put a v u) f) (λ w. value t (put b v w) f)
    (λ u w m. plain-under P M s t is (put a v u) (put b v w) f mentioned same new
    (put-matched (λ x. IsFree x f) M a b v u w m free))
plain-under P M s t is a b (FClosure from to left right f) mentioned same new free =
    Under-best_walk M s.individuals t.individuals is.there is.back
    (λ u w. value s (put (put a left u) right w) f) (λ x y. value t (put (put b left x) right y) f)
    (λ u w x y m n. plain-under P M s t is (put (put a left u) right w) (put (put b left x) right y) f mentioned same new
    (put-matched (λ z. IsFree z f) M (put a left u) (put b left x) right w y n
    (put-matched (λ z. (z ≢ right) × IsFree z f) M a b left u x m (λ z k. free z (inr (inr (k.0, k.1.0, k.1.1)))))))
    (a from) (a to) (b from) (b to) (free from (inl refl)) (free to (inr (inl refl)))

-- ---- both ways

atoms-split : (P : ℕ → Type 0) (m : ℕ → ℕ) (s t : LogicalStructure) → KeepsValues P m s t
    → (pred : ℕ) → P pred → (vars : List ℕ) (a b : Assignment) → ((v : ℕ) → Contains vars v → GoesTo m s (a v) (b v))
    → s.value pred (map a vars) ≡ t.value pred (map b vars)
atoms-split P m s t k pred p vars a b goes =
    k.values pred p (map a vars) (All-values (Contains s.individuals) a vars (λ v at. (goes v at).0))
    ∙ ap (t.value pred) (map-images m a b vars (λ v at. (goes v at).1))

paired-split : (P : ℕ → Type 0) (m : ℕ → ℕ) (s t : LogicalStructure) → KeepsValues P m s t → Paired P (GoesTo m s) s t
paired-split P m s t k = record {
  there = λ u at. (m u, k.into u at, (at, refl));
  back = λ w at. let d : (u : ℕ) × Contains s.individuals u × (m u ≡ w) = k.onto w at in (d.0, d.1, (d.1, d.2));
  atoms = λ pred p vars a b goes. inl (atoms-split P m s t k pred p vars a b goes);
}

paired-back : (P : ℕ → Type 0) (m : ℕ → ℕ) (s t : LogicalStructure) → KeepsValues P m s t → Paired P (λ w u. GoesTo m s u w) t s
paired-back P m s t k = record {
  there = λ w at. let d : (u : ℕ) × Contains s.individuals u × (m u ≡ w) = k.onto w at in (d.0, d.1, (d.1, d.2));
  back = λ u at. (m u, k.into u at, (at, refl));
  atoms = λ pred p vars b a goes. inl (sym (atoms-split P m s t k pred p vars a b goes));
}

kept : (P : ℕ → Type 0) (m : ℕ → ℕ) (s t : LogicalStructure) → KeepsValues P m s t
    → (f : Form) → ((q : ℕ) → Mentions q f → P q) → ¬ HasEquality f → ¬ NamesNew f
    → (a b : Assignment) → ((v : ℕ) → IsFree v f → GoesTo m s (a v) (b v)) → value s a f ≡ value t b f
kept P m s t k f mentioned same new a b takes =
    LiesUnder-antisym (value s a f) (value t b f)
    (LiesUnder-from_Under (value s a f) (value t b f)
    (plain-under P (GoesTo m s) s t (paired-split P m s t k) a b f mentioned same new takes))
    (LiesUnder-from_Under (value t b f) (value s a f)
    (plain-under P (λ w u. GoesTo m s u w) t s (paired-back P m s t k) b a f mentioned same new takes))

pub splits_keep_values : SplitsKeepValues
splits_keep_values f m s t a b k same new takes = kept (λ q. Mentions q f) m s t k f (λ q h. h) same new a b takes

-- ---- rules

stands-in_head : (rule : RuleForm) (pred : ℕ) (flag : Bool) (vars : List ℕ) → rule.head ≡ HAtom flag pred vars → StandsIn pred rule
stands-in_head rule pred flag vars is = let Of : HeadForm → Type 0 = λ h. IsHeadOf pred h in inr (subst Of (sym is) refl)

head-kept : (m : ℕ → ℕ) (s t : LogicalStructure) (rule : RuleForm) → KeepsRuleValues rule m s t → (head : HeadForm) → rule.head ≡ head
    → ¬ HasEqualityIn rule
    → (a b : Assignment) → ((v : ℕ) → IsInHead v head → GoesTo m s (a v) (b v))
    → value s a (head_formula head) ≡ value t b (head_formula head)
head-kept m s t rule keeps HNever is none a b takes = refl
head-kept m s t rule keeps (HAtom true pred vars) is none a b takes =
    atoms-split (λ q. StandsIn q rule) m s t keeps pred (stands-in_head rule pred true vars is) vars a b takes
head-kept m s t rule keeps (HAtom false pred vars) is none a b takes =
    ap negation_of (atoms-split (λ q. StandsIn q rule) m s t keeps pred (stands-in_head rule pred false vars is) vars a b takes)
head-kept m s t rule keeps (HSame flag v w) is none a b takes =
    let Equal : HeadForm → Type 0 = λ h. IsEquality h in absurd (none (inr (subst Equal (sym is) tt)))

-- it is enough that heads which may stay unknown in t may in s
rule-split : (m : ℕ → ℕ) (s t : LogicalStructure) (rule : RuleForm) → KeepsRuleValues rule m s t → IsRuleOfAtoms rule
    → ((a : Assignment) → ((v : ℕ) → IsFreeInRule v rule → Contains s.individuals (a v))
    → MayStayHalf t (λ v. m (a v)) rule.head → MayStayHalf s a rule.head)
    → IsStableUnder t rule → IsStableUnder s rule
rule-split m s t rule keeps is stays stable a inside body =
    ⊎_elim
    (λ yes. inl (head-kept m s t rule keeps rule.head refl is.atoms a b (λ v at. goes v (inr at)) ∙ yes))
    (λ may. inr (stays a inside may))
    (stable b (λ v free. keeps.into (a v) (inside v free))
    (sym (kept (λ q. StandsIn q rule) m s t keeps rule.body (λ q h. inl h) (λ e. is.atoms (inl e)) is.unmarked a b (λ v at. goes v (inl at))) ∙ body))
  where
    b : Assignment
    b = λ v. m (a v)

    goes : (v : ℕ) → IsFreeInRule v rule → GoesTo m s (a v) (b v)
    goes v free = (inside v free, refl)

pub splits_are_stable : SplitsAreStable
splits_are_stable m s t rule keeps is stable =
    rule-split m s t rule keeps is.of_atoms (λ a inside may. absurd (is.differ (may.var, may.twice))) stable

-- a variable that the head has twice stands in it
pub twice-in_head : (v : ℕ) (head : HeadForm) → IsTwice v head → IsInHead v head
twice-in_head v HNever twice = absurd twice
twice-in_head v (HAtom flag pred vars) twice =
    let In : List ℕ → Type 0 = λ vs. Contains vs v
    in subst In (sym twice) (Contains-here v (v ∷ []))
twice-in_head v (HSame flag w u) twice = inl (sym twice.0)

stays-half : (m : ℕ → ℕ) (s t : LogicalStructure) (rule : RuleForm) → KeepsRuleValues rule m s t → KeepsSummaries m s t → IsRuleOfAtoms rule
    → (a : Assignment) → ((v : ℕ) → IsFreeInRule v rule → Contains s.individuals (a v))
    → MayStayHalf t (λ v. m (a v)) rule.head → MayStayHalf s a rule.head
stays-half m s t rule keeps summaries is a inside may = record {
  var = may.var;
  twice = may.twice;
  summary = summaries (a may.var) (inside may.var (inr (twice-in_head may.var rule.head may.twice))) may.summary;
  half = head-kept m s t rule keeps rule.head refl is.atoms a (λ v. m (a v)) (λ v at. (inside v (inr at), refl)) ∙ may.half;
}

pub splits_of_summaries_are_stable : SplitsOfSummariesAreStable
splits_of_summaries_are_stable m s t rule keeps summaries is stable =
    rule-split m s t rule keeps is (stays-half m s t rule keeps summaries is) stable
