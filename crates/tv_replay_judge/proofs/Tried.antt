-- What holds however the other variables get individuals.
use Rattle.std.proofs.Common.{ℕ, ◌≡◌, ◌⊎◌, ◌↔◌, List, [], ◌∷◌, inl, inr, ⊎_elim, refl, sym, ap, subst, ◌∙◌}
use Rattle.std.proofs.Common.{Contains}
use Rattle.std.proofs.lemmas.Bool.{cases_eq}
use Rattle.tv_model.specs.Form.{Form, FAnd, IsFree}
use Rattle.tv_model.specs.Heap.{Heap}
use Rattle.tv_model.specs.Program.{RuleForm}
use Rattle.tv_model.specs.Rules.{MeetsRule, IsFreeInRule}
use Rattle.tv_model.specs.Truth.{Assignment, Truth, put}
use Rattle.tv_model.proofs.Assignments.{put-same, put-other}
use Rattle.tv_model.proofs.Heads.{free-in_head, in-head_free}
use Rattle.tv_model.proofs.Lists.{Contains-here, Contains-there, Contains-cases, Contains-none}
use Rattle.tv_model.proofs.Truths.{truth-agreed}
use Rattle.tv_replay_judge.specs.Trying.{ImplicationForm, tried_rule, IsFreeIn, GoesOn, IsRuledOut, IsGranted}
use Rattle.tv_replay_judge.specs.Trying.{IsMetUnder, IsMetFrom}

-- ---- what is ruled out

pub settled-out : (h : Heap) (rest : List ℕ) (a : Assignment) (f : Form) → ((v : ℕ) → Contains rest v → ¬ IsFree v f) → (¬ Truth h a f)
    → IsRuledOut h rest a f
settled-out h rest a f settled fails b goes truth =
    fails ((truth-agreed h b a f (λ v free. goes v free (λ at. settled v at free))).0 truth)

pub settled-granted : (h : Heap) (rest : List ℕ) (a : Assignment) (f : Form) → ((v : ℕ) → Contains rest v → ¬ IsFree v f) → Truth h a f
    → IsGranted h rest a f
settled-granted h rest a f settled truth b goes =
    (truth-agreed h b a f (λ v free. goes v free (λ at. settled v at free))).1 truth

pub and-left : (h : Heap) (rest : List ℕ) (a : Assignment) (f g : Form) → IsRuledOut h rest a f → IsRuledOut h rest a (FAnd f g)
and-left h rest a f g out b goes truth = out b (λ v free. goes v (inl free)) truth.0

pub and-right : (h : Heap) (rest : List ℕ) (a : Assignment) (f g : Form) → IsRuledOut h rest a g → IsRuledOut h rest a (FAnd f g)
and-right h rest a f g out b goes truth = out b (λ v free. goes v (inr free)) truth.1

pub met-out : (h : Heap) (t : ImplicationForm) (rest : List ℕ) (a : Assignment) → IsRuledOut h rest a t.body → IsMetFrom h t rest a
met-out h t rest a out b goes given body = absurd (out b (λ v free. goes v (inl free)) body)

pub met-granted : (h : Heap) (t : ImplicationForm) (rest : List ℕ) (a : Assignment) → IsGranted h rest a t.head → IsMetFrom h t rest a
met-granted h t rest a granted b goes given body = granted b (λ v free. goes v (inr free))

-- ---- walks over the variables

pub met-none : (h : Heap) (t : ImplicationForm) (a : Assignment) → ((v : ℕ) → IsFreeIn v t → Contains h.individuals (a v))
    → IsMetUnder h t a ↔ IsMetFrom h t [] a
met-none h t a given = (
  λ met b goes in_b body.
      let same : (v : ℕ) → IsFreeIn v t → b v ≡ a v = λ v free. goes v free (λ none. Contains-none v none)
      in (truth-agreed h b a t.head (λ v free. same v (inr free))).1
      (met ((truth-agreed h b a t.body (λ v free. same v (inl free))).0 body)),
  λ met. met a (λ v free out. refl) given,
)

pub met-each : (h : Heap) (t : ImplicationForm) (v : ℕ) (rest : List ℕ) (a : Assignment) → IsFreeIn v t
    → IsMetFrom h t (v ∷ rest) a ↔ ((u : ℕ) → Contains h.individuals u → IsMetFrom h t rest (put a v u))
met-each h t v rest a here = (
  λ met u at b goes given. met b (λ w free out. goes w free (λ in_rest. out (Contains-there v w rest in_rest)) ∙ put-other a v u w (apart w out)) given,
  λ each b goes given. each (b v) (given v here) b (λ w free out. at_one b goes w free out (cases_eq w v)) given,
)
  where
    apart : (w : ℕ) → ¬ Contains (v ∷ rest) w → w ≡ v → ⊥
    apart w out e = let In : ℕ → Type 0 = λ x. Contains (v ∷ rest) x in out (subst In (sym e) (Contains-here v rest))

    at_one : (b : Assignment) → GoesOn (λ w. IsFreeIn w t) (v ∷ rest) a b → (w : ℕ) → IsFreeIn w t → ¬ Contains rest w
        → (w ≡ v) ⊎ (w ≡ v → ⊥) → b w ≡ put a v (b v) w
    at_one b goes w free out (inl e) = ap b e ∙ sym (put-same a v (b v) w e)
    at_one b goes w free out (inr ne) =
        goes w free (λ at. ⊎_elim (λ e. ne (sym e)) (λ there. out there) (Contains-cases v w rest at))
        ∙ sym (put-other a v (b v) w ne)

-- a walk over all variables of a rule
pub met-all : (h : Heap) (rule : RuleForm) (vars : List ℕ) (a : Assignment) → ((v : ℕ) → IsFreeIn v (tried_rule rule) → Contains vars v)
    → IsMetFrom h (tried_rule rule) vars a ↔ MeetsRule h rule
met-all h rule vars a all = (
  λ met b given body.
      met b (λ v free out. absurd (out (all v free))) (λ v free. given v (in-rule v free)) body,
  λ meets b goes given body. meets b (λ v free. given v (from-rule v free)) body,
)
  where
    in-rule : (v : ℕ) → IsFreeIn v (tried_rule rule) → IsFreeInRule v rule
    in-rule v (inl f) = inl f
    in-rule v (inr f) = inr (free-in_head v rule.head f)

    from-rule : (v : ℕ) → IsFreeInRule v rule → IsFreeIn v (tried_rule rule)
    from-rule v (inl f) = inl f
    from-rule v (inr f) = inr (in-head_free v rule.head f)
