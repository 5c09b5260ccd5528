-- Rules that see no difference.
use Rattle.std.proofs.Common.{ℕ, ◌≡◌, ◌∙◌, true, false, inl, inr, ⊎_elim, refl, sym, Contains}
use Rattle.tv_model.specs.Form.{Form, Mentions}
use Rattle.tv_model.specs.Program.{HeadForm, HNever, HAtom, HSame, RuleForm}
use Rattle.tv_model.specs.Rules.{IsFreeInRule, head_formula}
use Rattle.tv_model.specs.Valid.{NamesNew}
use Rattle.tv_model.proofs.Heads.{free-in_head, head-unmarked}
use Rattle.tv_embedding_laws.specs.LogicalStructure.{LogicalStructure}
use Rattle.tv_eval_laws.specs.Value.{value}
use Rattle.tv_eval_laws.specs.Laws.{LooksAlike}
use Rattle.tv_eval_laws.proofs.Embedded.{values_are_local}
use Rattle.tv_rules.specs.Standing.{StandsIn, IsHeadOf}
use Rattle.tv_coerce_laws.specs.Split.{IsUntouched}
use Rattle.tv_coerce_laws.specs.Laws.{UntouchedRulesStayStable}
use Rattle.tv_coerce_laws.proofs.Splits.{twice-in_head}

mentions-head : (q : ℕ) (head : HeadForm) → Mentions q (head_formula head) → IsHeadOf q head
mentions-head q HNever k = k
mentions-head q (HAtom true pred vars) k = k
mentions-head q (HAtom false pred vars) k = k
mentions-head q (HSame true v w) k = k
mentions-head q (HSame false v w) k = k

-- a formula all of whose predicates stand in the rule looks alike
alike : (rule : RuleForm) (s t : LogicalStructure) → IsUntouched rule s t → (f : Form) → ((q : ℕ) → Mentions q f → StandsIn q rule)
    → ¬ NamesNew f → LooksAlike f s t
alike rule s t is f mentioned unmarked = record {
  individuals = is.individuals;
  values = λ pred k tuple inside. is.values pred (mentioned pred k) tuple inside;
  summaries = is.summaries;
  marks = λ named. absurd (unmarked named);
}

pub untouched_rules_stay_stable : UntouchedRulesStayStable
untouched_rules_stay_stable s t rule unmarked is stable a inside body =
    ⊎_elim
    (λ yes. inl (sym head ∙ yes))
    (λ may. inr (record {
      var = may.var;
      twice = may.twice;
      summary = sym (is.summaries (a may.var) (within may.var (inr (twice-in_head may.var rule.head may.twice)))) ∙ may.summary;
      half = sym head ∙ may.half;
    }))
    (stable a within (same ∙ body))
  where
    within : (v : ℕ) → IsFreeInRule v rule → Contains s.individuals (a v)
    within v free = (is.individuals (a v)).1 (inside v free)

    same : value s a rule.body ≡ value t a rule.body
    same =
        values_are_local rule.body s t a a (alike rule s t is rule.body (λ q k. inl k) unmarked)
        (λ v free. (within v (inl free), refl))

    head : value s a (head_formula rule.head) ≡ value t a (head_formula rule.head)
    head =
        values_are_local (head_formula rule.head) s t a a
        (alike rule s t is (head_formula rule.head) (λ q k. inr (mentions-head q rule.head k)) (head-unmarked rule.head))
        (λ v free. (within v (inr (free-in_head v rule.head free)), refl))
