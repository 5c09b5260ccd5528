-- Tests of rules: whether a variable is free, whether a head has one variable twice.
use Rattle.std.proofs.Common.{ℕ, ◌≡◌, ◌<◌, ◌≤◌, ◌+◌, ◌↔◌, ◌⊎◌, ◌∙◌, ◌==◌, Bool, true, false, IsTrue, List, []}
use Rattle.std.proofs.Common.{◌∷◌, ◌++◌, get_or, length, inl, inr, ⊎_elim, refl, sym, ap, subst, Contains}
use Rattle.std.proofs.Common.{arith}
use Rattle.std.proofs.lemmas.Bool.{false≢true, eqb-true, eq-eqb, cases_lt}
use Rattle.std.proofs.lemmas.List.{get_or-map, length-map, map-append}
use Rattle.std.proofs.lemmas.List.Elements.{Contains-push, Contains-push_cases, Contains-append_left}
use Rattle.tv_model.specs.declared.formula.Var.{Var}
use Rattle.tv_model.specs.Form.{Form, IsFree}
use Rattle.tv_model.specs.Program.{HeadForm, HNever, HAtom, HSame, RuleForm}
use Rattle.tv_model.specs.Rules.{IsFreeInRule}
use Rattle.tv_model.specs.Free.{is_free}
use Rattle.tv_rules.specs.Closing.{is_in_head}
use Rattle.tv_rules.specs.EntryForms.{numbers_of, AreFreeIn, HasMoreFree}
use Rattle.tv_rules.specs.Flags.{has_twice}
use Rattle.tv_rules.specs.Standing.{HasTwice}
use Rattle.tv_model.proofs.FreeTests.{free-from, from-free}
use Rattle.tv_rules.proofs.Free.{in_head-from, from-in_head}

pub free_in_rule-then : (v : ℕ) (rule : RuleForm) (b : Bool) → b ≡ is_free v rule.body → b ≡ true → IsTrue b ↔ IsFreeInRule v rule
free_in_rule-then v rule b is t = (λ _. inl (free-from v rule.body (sym is ∙ t)), λ _. t)

pub free_in_rule-else : (v : ℕ) (rule : RuleForm) (b d : Bool) → b ≡ is_free v rule.body → b ≡ false → d ≡ is_in_head v rule.head
    → IsTrue d ↔ IsFreeInRule v rule
free_in_rule-else v rule b d is t there = (
  λ k. inr (in_head-from v rule.head (sym there ∙ k)),
  λ k. ⊎_elim (λ free. absurd (false≢true (sym t ∙ is ∙ from-free v rule.body free)))
      (λ head. there ∙ from-in_head v rule.head head) k,
)

-- a variable that is put behind the list
pub noted : (F : ℕ → Type 0) (old new : List Var) (v : Var) → new ≡ old ++ v ∷ [] → F v.0
    → (w : ℕ) → Contains (numbers_of new) w ↔ (Contains (numbers_of old) w ⊎ ((w ≡ v.0) × F w))
noted F old new v put here w =
    let e : numbers_of new ≡ numbers_of old ++ v.0 ∷ [] = ap numbers_of put ∙ map-append (λ (x : Var). x.0) old (v ∷ [])
    in let Has : List ℕ → Type 0 = λ ns. Contains ns w
    in (
      λ at. ⊎_elim (λ before. inl before) (λ same. inr (sym same, subst F same here))
          (Contains-push_cases (numbers_of old) v.0 w (subst Has e at)),
      λ at. subst Has (sym e) (⊎_elim (λ before. Contains-append_left (numbers_of old) (v.0 ∷ []) w before)
          (λ same. let Here : ℕ → Type 0 = λ x. Contains (numbers_of old ++ v.0 ∷ []) x in subst Here (sym same.0) (Contains-push (numbers_of old) v.0)) at),
    )

-- a variable that was read stands in the list
pub listed-at : (vars : List Var) (i : ℕ) (d : Var) (v : ℕ) → i < length vars → (get_or vars i d).0 ≡ v → Contains (numbers_of vars) v
listed-at vars i d v below is =
    let N : Var → ℕ = λ x. x.0
    in (i, omega (arith, below, length-map vars N), get_or-map N vars i d v below ∙ is)

-- one that stands there already
pub noted-there : (F : ℕ → Type 0) (vars : List Var) (v : Var) → Contains (numbers_of vars) v.0
    → (w : ℕ) → Contains (numbers_of vars) w ↔ (Contains (numbers_of vars) w ⊎ ((w ≡ v.0) × F w))
noted-there F vars v there w = (
  λ at. inl at,
  λ k. ⊎_elim (λ before. before) (λ same. subst (Contains (numbers_of vars)) (sym same.0) there) k,
)

-- only free ones are in the list, and those below v are
abbrev pub HasFree : (F : ℕ → Type 0) → (vars : List ℕ) → (v : ℕ) → Type 0
HasFree F vars v = (w : ℕ) → (Contains vars w → (w < 32) × F w) × (w < v → F w → Contains vars w)

-- where nothing is put, where a variable is put behind, and where more is
pub more_free-none : (rule : RuleForm) (vars : List ℕ) → HasMoreFree rule vars vars
more_free-none rule vars = λ w. (λ at. at, λ at. inl at)

pub more_free-noted : (rule : RuleForm) (old new next : List ℕ) (v : ℕ) → v < 32 → HasMoreFree rule old new
    → ((w : ℕ) → Contains next w ↔ (Contains new w ⊎ ((w ≡ v) × IsFreeInRule w rule)))
    → HasMoreFree rule old next
more_free-noted rule old new next v range before put = λ w. (
  λ at. (put w).1 (inl ((before w).0 at)),
  λ at. ⊎_elim (λ l. (before w).1 l) (λ r. inr (omega (arith, range, r.0), r.1)) ((put w).0 at),
)

pub more_free-next : (rule : RuleForm) (old new next : List ℕ) → HasMoreFree rule old new
    → HasMoreFree rule new next → HasMoreFree rule old next
more_free-next rule old new next before more = λ w. (
  λ at. (more w).0 ((before w).0 at),
  λ at. ⊎_elim (λ l. (before w).1 l) (λ r. inr r) ((more w).1 at),
)

-- the free ones below v, where more is put
pub free-kept : (rule : RuleForm) (old new : List ℕ) (v : ℕ) → HasFree (λ w. IsFreeInRule w rule) old v
    → HasMoreFree rule old new → HasFree (λ w. IsFreeInRule w rule) new v
free-kept rule old new v before more = λ w. (
  λ at. ⊎_elim (λ l. (before w).0 l) (λ r. r) ((more w).1 at),
  λ less free. (more w).0 ((before w).1 less free),
)

-- the free ones of one variable more
pub free-more : (rule : RuleForm) (old new : List ℕ) (v : ℕ) → HasFree (λ w. IsFreeInRule w rule) old v
    → HasMoreFree rule old new → (IsFreeInRule v rule → Contains new v)
    → HasFree (λ w. IsFreeInRule w rule) new (v + 1)
free-more rule old new v before more own = λ w. (
  λ at. (free-kept rule old new v before more w).0 at,
  λ less free. ⊎_elim (λ below. (free-kept rule old new v before more w).1 below free)
      (λ above. let same : w ≡ v = omega (arith, less, above) in
      let F : ℕ → Type 0 = λ x. IsFreeInRule x rule in
      subst (Contains new) (sym same) (own (subst F same free))) (cases_lt w v),
)

pub free-all : (F : ℕ → Type 0) (vars : List ℕ) (v : ℕ) → 32 ≤ v → HasFree F vars v
    → (w : ℕ) → Contains vars w ↔ ((w < 32) × F w)
free-all F vars v all has = λ w. ((has w).0, λ k. (has w).1 (omega (arith, all, k.0)) k.1)

-- where free variables are in range, the free ones in range are all
pub free-in_range : (rule : RuleForm) (vars : List Var)
    → ((v : ℕ) → Contains (numbers_of vars) v ↔ ((v < 32) × IsFreeInRule v rule))
    → ((v : ℕ) → IsFreeInRule v rule → v < 32) → AreFreeIn rule vars
free-in_range rule vars free range v = (λ at. ((free v).0 at).1, λ k. (free v).1 (range v k, k))

same-answer : (v w : ℕ) → IsTrue (v == w) ↔ ((x : ℕ) × (v ∷ w ∷ [] ≡ x ∷ x ∷ []))
same-answer v w = (
  λ t. (w, ap (λ x. x ∷ w ∷ []) (eqb-true v w t)),
  λ k. let p : v ≡ k.0 = cc (k.1) in let q : w ≡ k.0 = cc (k.1) in eq-eqb v w (p ∙ sym q),
)

pub twice-answer : (head : HeadForm) → IsTrue (has_twice head) ↔ HasTwice head
twice-answer HNever = (λ t. absurd (false≢true t), λ k. absurd k.1)
twice-answer (HAtom flag pred []) = (λ t. absurd (false≢true t), λ k. absurd (cc (k.1)))
twice-answer (HAtom flag pred (v ∷ [])) = (λ t. absurd (false≢true t), λ k. absurd (cc (k.1)))
twice-answer (HAtom flag pred (v ∷ w ∷ [])) = same-answer v w
twice-answer (HAtom flag pred (v ∷ w ∷ u ∷ vars)) = (λ t. absurd (false≢true t), λ k. absurd (cc (k.1)))
twice-answer (HSame flag v w) = (λ t. (w, (eqb-true v w t, refl)), λ k. eq-eqb v w (k.1.0 ∙ sym k.1.1))
