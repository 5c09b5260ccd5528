use Rattle.std.proofs.Common.{◌∙◌, false, length, ap, sym, subst}
use Rattle.std.proofs.lemmas.List.{length-replicate}
use Rattle.tv_rules.specs.EntryForms.{rules_of}
use Rattle.tv_step.specs.Waiting.{WaitsAbout}
use Rattle.tv_step.proofs.Noting.{waits-about}
use Rattle.tv_step.proofs.waiting.made_at.Goals as goal

pub add_all-requires : goal.add_all-requires
add_all-requires c =
    c.add_seeing.ensures.count ∙ ap length c.in_ok-waiting.ensures
    ∙ length-replicate (length (rules_of c.args.x.now.closed.now)) false

pub returns : goal.returns
returns c =
    let rules = rules_of c.args.x.now.closed.now
    in let preds = c.args.preds.now
    in subst (WaitsAbout preds rules) (sym c.in_ok-new.ensures.ok)
    (waits-about preds rules c.in_ok-waiting.waiting c.add_seeing.new.self c.add_all.new.waiting
    (ap length c.in_ok-waiting.ensures ∙ length-replicate (length rules) false) c.add_seeing.ensures
    c.add_all.ensures)
