-- Rules by all choices of individuals for their variables.
use Rattle.std.proofs.Common.{ℕ, ◌≡◌, ◌⊎◌, ◌↔◌, ◌<◌, ◌+◌, ◌++◌, List, [], ◌∷◌, length, take, take_all, Result}
use Rattle.std.proofs.Common.{Ok, Err, IfOk, get_or, ◌≤◌, inl, inr, ⊎_elim, sym, ap, subst, ◌∙◌}
use Rattle.std.proofs.Common.{Contains, Bool, IsTrue, arith, zero, suc, add-one}
use Rattle.std.proofs.lemmas.Bool.{cases_eq}
use Rattle.std.proofs.lemmas.List.Elements.{Contains-append_left, Contains-append_right}
use Rattle.tv_model.specs.Form.{Form, FZero, FOne, FAtom, FIsNew, FSame, FNot, FAnd, FOr, FIff, FCond}
use Rattle.tv_model.specs.Form.{FExists, FForall, FClosure, IsFree}
use Rattle.tv_model.specs.Heap.{Heap}
use Rattle.tv_model.specs.Program.{RuleForm, HeadForm, HNever, HAtom, HSame}
use Rattle.tv_model.specs.Rules.{MeetsRule, IsInHead, IsFreeInRule, blank, head_formula}
use Rattle.tv_model.specs.Truth.{Assignment, put}
use Rattle.tv_model.proofs.Lists.{Contains-here, Contains-there, Contains-cases, Contains-none}
use Rattle.tv_model.proofs.Assignments.{put-same, put-other}
use Rattle.tv_model.proofs.Heads.{free-in_head}
use Rattle.tv_model.proofs.Truths.{truth-agreed}
use Rattle.tv_concrete.specs.Assignments.{EachPut, RuleTruth, variables_in, head_variables}

-- a rule's truth depends only on its free variables
pub RuleTruth-local : (h : Heap) (rule : RuleForm) (a b : Assignment) → ((v : ℕ) → IsFreeInRule v rule → a v ≡ b v)
    → RuleTruth h rule a → RuleTruth h rule b
RuleTruth-local h rule a b agrees t body =
    (truth-agreed h a b (head_formula rule.head) (λ v free. agrees v (inr (free-in_head v rule.head free)))).0
    (t ((truth-agreed h a b rule.body (λ v at. agrees v (inl at))).1 body))

-- what is true however individuals are put is true at an assignment of individuals, up to other variables
pub EachPut-at : (h : Heap) (vars : List ℕ) (a b : Assignment) (P : Assignment → Type 0)
    → ((v : ℕ) → Contains vars v → Contains h.individuals (b v))
    → EachPut h vars a P
    → (c : Assignment) × P c × ((v : ℕ) → Contains vars v ⊎ (a v ≡ b v) → c v ≡ b v)
EachPut-at h [] a b P given each = (a, each, λ v. ⊎_elim (λ at. absurd (Contains-none v at)) (λ e. e))
EachPut-at h (v ∷ vars) a b P given each =
    let rest : (c : Assignment) × P c × ((w : ℕ) → Contains vars w ⊎ (put a v (b v) w ≡ b w) → c w ≡ b w) =
    EachPut-at h vars (put a v (b v)) b P (λ w at. given w (Contains-there v w vars at))
    (each (b v) (given v (Contains-here v vars)))
    in (rest.0, rest.1, λ w which. rest.2 w (moved w which (cases_eq w v)))
  where
    moved : (w : ℕ) → Contains (v ∷ vars) w ⊎ (a w ≡ b w) → (w ≡ v) ⊎ (w ≡ v → ⊥) → Contains vars w
        ⊎ (put a v (b v) w ≡ b w)
    moved w which (inl e) = inr (put-same a v (b v) w e ∙ ap b (sym e))
    moved w (inl at) (inr ne) =
        ⊎_elim (λ e. absurd (ne (sym e))) (λ there. inl there) (Contains-cases v w vars at)
    moved w (inr e) (inr ne) = inr (put-other a v (b v) w ne ∙ e)

-- what holds of all assignments of individuals holds however they are put
pub EachPut-from : (h : Heap) (rule : RuleForm) (vars : List ℕ) (a : Assignment) → MeetsRule h rule
    → ((v : ℕ) → IsFreeInRule v rule → Contains vars v ⊎ Contains h.individuals (a v))
    → EachPut h vars a (RuleTruth h rule)
EachPut-from h rule [] a meets given = meets a
    (λ v at. ⊎_elim (λ none. absurd (Contains-none v none)) (λ x. x) (given v at))
EachPut-from h rule (v ∷ vars) a meets given =
    λ u is_one. EachPut-from h rule vars (put a v u) meets (λ w at. moved u is_one w (given w at) (cases_eq w v))
  where
    moved : (u : ℕ) → Contains h.individuals u → (w : ℕ) → Contains (v ∷ vars) w ⊎ Contains h.individuals (a w)
        → (w ≡ v) ⊎ (w ≡ v → ⊥)
        → Contains vars w ⊎ Contains h.individuals (put a v u w)
    moved u is_one w which (inl e) = let In : ℕ → Type 0 = λ x. Contains h.individuals x
        in inr (subst In (sym (put-same a v u w e)) is_one)
    moved u is_one w (inl at) (inr ne) = ⊎_elim (λ e. absurd (ne (sym e))) (λ there. inl there)
        (Contains-cases v w vars at)
    moved u is_one w (inr at) (inr ne) = let In : ℕ → Type 0 = λ x. Contains h.individuals x
        in inr (subst In (sym (put-other a v u w ne)) at)

-- an answer on all choices for the free variables answers the rule
pub rule-answer : (h : Heap) (rule : RuleForm) (vars : List ℕ) (b : Bool)
    → ((v : ℕ) → Contains vars v ↔ IsFreeInRule v rule)
    → IsTrue b ↔ EachPut h vars blank (RuleTruth h rule) → IsTrue b ↔ MeetsRule h rule
rule-answer h rule vars b free answer = (
  λ t a given.
      let at : (c : Assignment) × RuleTruth h rule c × ((v : ℕ) → Contains vars v ⊎ (blank v ≡ a v) → c v ≡ a v) =
      EachPut-at h vars blank a (RuleTruth h rule) (λ v in_vars. given v ((free v).0 in_vars)) (answer.0 t)
      in RuleTruth-local h rule at.0 a (λ v is_free. at.2 v (inl ((free v).1 is_free))) at.1,
  λ meets. answer.1 (EachPut-from h rule vars blank meets (λ v is_free. inl ((free v).1 is_free))),
)

here1 : (v w : ℕ) → v ≡ w → Contains (w ∷ []) v
here1 v w e = let In : ℕ → Type 0 = λ x. Contains (w ∷ []) x in subst In (sym e) (Contains-here w [])

here2 : (v w u : ℕ) → v ≡ w → Contains (w ∷ u ∷ []) v
here2 v w u e = let In : ℕ → Type 0 = λ x. Contains (w ∷ u ∷ []) x in subst In (sym e) (Contains-here w (u ∷ []))

-- a free variable stands among the variables
pub IsFree-stands : (v : ℕ) (f : Form) → IsFree v f → Contains (variables_in f) v
IsFree-stands v FZero at = absurd at
IsFree-stands v FOne at = absurd at
IsFree-stands v (FAtom q vars) at = at
IsFree-stands v (FIsNew w) at = here1 v w at
IsFree-stands v (FSame w u) at = ⊎_elim (λ e. here2 v w u e) (λ e. Contains-there w v (u ∷ []) (here1 v u e)) at
IsFree-stands v (FNot f) at = IsFree-stands v f at
IsFree-stands v (FAnd f g) at = ⊎_elim (λ l. Contains-append_left (variables_in f) (variables_in g) v
    (IsFree-stands v f l)) (λ r. Contains-append_right (variables_in f) (variables_in g) v (IsFree-stands v g r)) at
IsFree-stands v (FOr f g) at = ⊎_elim (λ l. Contains-append_left (variables_in f) (variables_in g) v
    (IsFree-stands v f l)) (λ r. Contains-append_right (variables_in f) (variables_in g) v (IsFree-stands v g r)) at
IsFree-stands v (FIff f g) at = ⊎_elim (λ l. Contains-append_left (variables_in f) (variables_in g) v
    (IsFree-stands v f l)) (λ r. Contains-append_right (variables_in f) (variables_in g) v (IsFree-stands v g r)) at
IsFree-stands v (FCond c f g) at =
    ⊎_elim
    (λ l. Contains-append_left (variables_in c ++ variables_in f) (variables_in g) v
    (Contains-append_left (variables_in c) (variables_in f) v (IsFree-stands v c l)))
    (λ r. ⊎_elim
    (λ m. Contains-append_left (variables_in c ++ variables_in f) (variables_in g) v
    (Contains-append_right (variables_in c) (variables_in f) v (IsFree-stands v f m)))
    (λ n. Contains-append_right (variables_in c ++ variables_in f) (variables_in g) v (IsFree-stands v g n)) r)
    at
IsFree-stands v (FExists w f) at = IsFree-stands v f at.1
IsFree-stands v (FForall w f) at = IsFree-stands v f at.1
IsFree-stands v (FClosure from to left right f) at =
    ⊎_elim
    (λ e. Contains-append_left (from ∷ to ∷ []) (variables_in f) v (here2 v from to e))
    (λ r. ⊎_elim
    (λ e. Contains-append_left (from ∷ to ∷ []) (variables_in f) v (Contains-there from v (to ∷ []) (here1 v to e)))
    (λ inner. Contains-append_right (from ∷ to ∷ []) (variables_in f) v (IsFree-stands v f inner.2)) r)
    at

pub IsInHead-stands : (v : ℕ) (head : HeadForm) → IsInHead v head → Contains (head_variables head) v
IsInHead-stands v HNever at = absurd at
IsInHead-stands v (HAtom flag q vars) at = at
IsInHead-stands v (HSame flag w u) at = ⊎_elim (λ e. here2 v w u e) (λ e. Contains-there w v (u ∷ []) (here1 v u e)) at

-- the free ones of all variables of the rule are its free variables
pub free-of_all : (rule : RuleForm) (all vars : List ℕ) → all ≡ variables_in rule.body ++ head_variables rule.head
    → ((v : ℕ) → Contains vars v ↔ (Contains all v × IsFreeInRule v rule))
    → (v : ℕ) → Contains vars v ↔ IsFreeInRule v rule
free-of_all rule all vars is free v =
    let In : List ℕ → Type 0 = λ xs. Contains xs v
    in (
      λ at. ((free v).0 at).1,
      λ at. (free v).1 (
        subst In (sym is)
            (⊎_elim
            (λ b. Contains-append_left (variables_in rule.body) (head_variables rule.head) v
            (IsFree-stands v rule.body b))
            (λ d. Contains-append_right (variables_in rule.body) (head_variables rule.head) v
            (IsInHead-stands v rule.head d)) at),
        at,
      ),
    )

front : (x w : ℕ) (xs : List ℕ) → x ≡ w → Contains (x ∷ xs) w
front x w xs e = let In : ℕ → Type 0 = λ z. Contains (x ∷ xs) z in subst In e (Contains-here x xs)

-- the elements of a longer front
pub Contains-take_more : (all : List ℕ) (i : ℕ) (w : ℕ) → i < length all
    → Contains (take (i + 1) all) w ↔ (Contains (take i all) w ⊎ (w ≡ get_or all i 0))
Contains-take_more [] i w below = absurd (omega (arith, below))
Contains-take_more (x ∷ xs) zero w below = (
  λ at. ⊎_elim (λ e. inr (sym e)) (λ none. absurd (Contains-none w none)) (Contains-cases x w [] at),
  λ which. ⊎_elim (λ none. absurd (Contains-none w none)) (λ e. here1 w x e) which,
)
Contains-take_more (x ∷ xs) (suc i) w below =
    let ih : Contains (take (suc i) xs) w ↔ (Contains (take i xs) w ⊎ (w ≡ get_or xs i 0)) = rw (add-one i) at
    (Contains-take_more xs i w (omega (arith, below)))
    in let In : ℕ → Type 0 = λ z. Contains (x ∷ take i xs) z
    in rw (add-one (suc i)) (
      λ at. ⊎_elim (λ e. inl (subst In e (Contains-here x (take i xs))))
          (λ there. ⊎_elim (λ l. inl (Contains-there x w (take i xs) l)) (λ e. inr e) (ih.0 there))
          (Contains-cases x w (take (suc i) xs) at),
      λ which. ⊎_elim
          (λ at. ⊎_elim (λ e. front x w (take (suc i) xs) e)
          (λ there. Contains-there x w (take (suc i) xs) (ih.1 (inl there))) (Contains-cases x w (take i xs) at))
          (λ e. Contains-there x w (take (suc i) xs) (ih.1 (inr e))) which,
    )

-- the free ones of a longer front
pub free-more : (F : ℕ → Type 0) (all : List ℕ) (i : ℕ) (old new : List ℕ) → i < length all
    → ((w : ℕ) → Contains old w ↔ (Contains (take i all) w × F w))
    → ((w : ℕ) → Contains new w ↔ (Contains old w ⊎ ((w ≡ get_or all i 0) × F w)))
    → (w : ℕ) → Contains new w ↔ (Contains (take (i + 1) all) w × F w)
free-more F all i old new below before noted w =
    let more : Contains (take (i + 1) all) w ↔
    (Contains (take i all) w ⊎ (w ≡ get_or all i 0)) = Contains-take_more all i w below
    in (
      λ at. ⊎_elim
          (λ l. let was : Contains (take i all) w × F w = (before w).0 l in (more.1 (inl was.0), was.1))
          (λ r. (more.1 (inr r.0), r.1)) ((noted w).0 at),
      λ s. (noted w).1 (⊎_elim (λ l. inl ((before w).1 (l, s.1))) (λ e. inr (e, s.1)) (more.0 s.0)),
    )

-- the free ones of the whole list
pub free-all : (F : ℕ → Type 0) (all : List ℕ) (i : ℕ) (vars : List ℕ) → length all ≤ i
    → ((w : ℕ) → Contains vars w ↔ (Contains (take i all) w × F w))
    → (w : ℕ) → Contains vars w ↔ (Contains all w × F w)
free-all F all i vars done before w =
    let Of : List ℕ → Type 0 = λ xs. Contains vars w ↔ (Contains xs w × F w)
    in subst Of (take_all i all done) (before w)

-- the same of an answer that may be lack of memory
pub free-of_result : {E : Type 0} (rule : RuleForm) (all : List ℕ)
    → all ≡ variables_in rule.body ++ head_variables rule.head
    → (result : Result (List ℕ) E)
    → IfOk result (λ vars. (v : ℕ) → Contains vars v ↔ (Contains all v × IsFreeInRule v rule))
    → IfOk result (λ vars. (v : ℕ) → Contains vars v ↔ IsFreeInRule v rule)
free-of_result rule all is (Ok vars) free = free-of_all rule all vars is free
free-of_result rule all is (Err e) free = free
