use Rattle.std.proofs.Common.{◌∙◌, false, length, ap, refl, sym, subst, All}
use Rattle.std.proofs.lemmas.List.{length-replicate}
use Rattle.std.proofs.lemmas.List.Elements.{All-nil}
use Rattle.tv_update_laws.specs.Applied.{kind_at}
use Rattle.tv_rules.specs.EntryForms.{rules_of}
use Rattle.tv_update.specs.Plan.{IsDefined}
use Rattle.tv_step.specs.Redefined.{AreDefining}
use Rattle.tv_step.specs.Setting.{form_in}
use Rattle.tv_step.specs.Waiting.{HasRulesOf, IsKeptAfter, IsKeptAt}
use Rattle.tv_step.proofs.Redefining.{are-defining}
use Rattle.tv_step.proofs.waiting.shared_sets.Goals as goal

pub add_defined-requires-clause-count : goal.add_defined-requires-clause-count
add_defined-requires-clause-count c =
    ap length c.in_ok-defined.ensures ∙ length-replicate (length (rules_of c.args.x.now.closed.now)) false

pub returns : goal.returns
returns c =
    let p = form_in c.args.x.now
    in let rules = rules_of c.args.x.now.closed.now
    in record {
      all = c.in_ok-all.ensures.ok ∙ c.in_ok-of_all.ensures;
      defined = subst
          (λ none. HasRulesOf (λ q. IsDefined (kind_at (form_in c.args.x.now) q)) rules none c.add_defined.new.waiting)
          c.in_ok-defined.ensures c.add_defined.ensures;
      after = subst (All (IsKeptAfter p rules)) (sym c.none_found-after.ensures) (All-nil (IsKeptAfter p rules));
      at = subst (All (IsKeptAt rules)) (sym c.none_found-at.ensures) (All-nil (IsKeptAt rules));
      defining = subst (AreDefining p rules) (sym c.in_ok-defining.ensures.ok)
          (are-defining p c.args.x.now.closed.now rules _ refl c.in_ok-defining_rules.ensures);
    }
