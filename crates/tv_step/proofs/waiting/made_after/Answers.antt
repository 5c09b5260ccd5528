use Rattle.std.proofs.Common.{◌∙◌, false, length, replicate, ap, sym, subst}
use Rattle.std.proofs.lemmas.List.{length-replicate}
use Rattle.tv_update_laws.specs.Applied.{kind_at}
use Rattle.tv_rules.specs.EntryForms.{rules_of}
use Rattle.tv_update.specs.Plan.{IsDefined}
use Rattle.tv_step.specs.Setting.{form_in}
use Rattle.tv_step.specs.Waiting.{HasRulesOf, WaitsAfter}
use Rattle.tv_step.proofs.Noting.{waits-after}
use Rattle.tv_step.proofs.waiting.made_after.Goals as goal

pub add_all-requires : goal.add_all-requires
add_all-requires c =
    ap length c.in_ok-waiting.ensures ∙ c.requires.count
    ∙ length-replicate (length (rules_of c.args.x.now.closed.now)) false

pub returns : goal.returns
returns c =
    let p = form_in c.args.x.now
    in let rules = rules_of c.args.x.now.closed.now
    in let preds = c.args.preds.now
    in let none = replicate (length rules) false
    in subst (WaitsAfter p preds rules) (sym c.in_ok-new.ensures.ok)
    (waits-after p preds rules none c.in_ok-waiting.waiting c.add_all.new.waiting
    (length-replicate (length rules) false)
    (subst (HasRulesOf (λ q. IsDefined (kind_at p q)) rules none) (sym c.in_ok-waiting.ensures) c.requires)
    c.add_all.ensures)
