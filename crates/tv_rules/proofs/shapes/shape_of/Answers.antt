use Rattle.std.proofs.Common.{ℕ, ◌↔◌, ◌++◌, ◌∷◌, [], ◌∙◌, List, Contains, ap, subst, sym}
use Rattle.std.specs.Borrow.{Bor}
use Rattle.std.proofs.lemmas.List.{map-append}
use Rattle.std.proofs.lemmas.Result.{IfOk-weaker}
use Rattle.tv_model.specs.Form.{form_of}
use Rattle.tv_model.specs.declared.formula.Formula.{Formula}
use Rattle.tv_rules.specs.Closing.{conjuncts}
use Rattle.tv_model.specs.Program.{rule_of}
use Rattle.tv_model.specs.Rules.{IsFreeInRule}
use Rattle.tv_coerce_members.specs.Members.{forms_of}
use Rattle.tv_rules.proofs.RuleTests.{free-in_range}
use Rattle.tv_rules.proofs.shapes.shape_of.Goals as goal

pub returns : goal.returns
returns c =
    let rule = rule_of c.args.rule.now
    in let vars = c.in_ok-variables.variables
    in IfOk-weaker c.lay_out.result _ _ (λ shape made. record {
      free = subst (λ (ns : List ℕ). (v : ℕ) → Contains ns v ↔ IsFreeInRule v rule) (sym made.variables)
          (free-in_range rule vars c.in_ok-variables.ensures c.requires);
      members = made.forms ∙ ap forms_of (c.deref.ensures.value ∙ c.in_ok-push.ensures.items)
          ∙ map-append (λ (b : Bor Formula). form_of b.now) c.in_ok-members.members.items _
          ∙ ap (λ fs. fs ++ form_of c.in_ok-negation.negation ∷ []) c.in_ok-members.ensures
          ∙ ap (λ x. conjuncts rule.body ++ x ∷ []) c.in_ok-negation.ensures;
      laid = made.laid;
    }) c.lay_out.ensures
