use Rattle.std.proofs.Common.{◌∙◌, map, ap, sym, subst}
use Rattle.std.proofs.lemmas.Result.{IfOk-weaker}
use Rattle.tv_model.specs.Program.{action_of, update_of}
use Rattle.tv_model.proofs.Lists.{map-compose}
use Rattle.tv_rules.specs.EntryForms.{rules_of}
use Rattle.tv_step.specs.Setting.{form_in}
use Rattle.tv_step.specs.Waiting.{WaitsAfter, WaitsFor}
use Rattle.tv_step.proofs.Noting.{waits-for}
use Rattle.tv_step.proofs.waiting.waiting_after.Goals as goal

pub returns-clause-waits : goal.returns-clause-waits
returns-clause-waits c =
    let p = form_in c.args.x.now
    in let rules = rules_of c.args.x.now.closed.now
    in let action = action_of c.args.action.now
    in let updates = c.args.action.now.updates
    in IfOk-weaker c.after_updates.result
    (λ set. WaitsAfter p (map (λ w. w.pred.0) c.as_slice.result.now) rules set.value)
    (λ set. WaitsFor p action rules set.value)
    (λ set after. waits-for p action rules set.value (sym c.moves.ensures ∙ c.if-moves.false)
    (subst (λ preds. WaitsAfter p preds rules set.value)
    (ap (map (λ w. w.pred.0)) c.as_slice.ensures ∙ sym (map-compose update_of (λ w. w.pred) updates)) after))
    c.after_updates.ensures.waits
