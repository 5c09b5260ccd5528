use Rattle.std.proofs.Common.{◌≡◌, ◌<◌, ◌≤◌, ◌+◌, subst}
use Rattle.std.specs.Prelude.{IsTrue}
use Rattle.tv_update_laws.specs.Applied.{kind_at}
use Rattle.tv_rules.specs.EntryForms.{rules_of}
use Rattle.tv_update.specs.Plan.{IsDefined}
use Rattle.tv_step.specs.Setting.{form_in}
use Rattle.tv_step.proofs.Noting.{below-next, defined-below, rules-same, rules-then}
use Rattle.tv_step.proofs.waiting.add_defined.Goals as goal

pub loop-number-preserved : goal.loop-number-preserved
loop-number-preserved c =
    let i = c.loop-number.number
    in rules-then (λ q. (q < i) × IsDefined (kind_at (form_in c.args.x.now) q))
    (λ q. (q ≡ i) × IsTrue c.is_defined.result)
    (λ q. (q < i + 1) × IsDefined (kind_at (form_in c.args.x.now) q)) (rules_of c.args.x.now.closed.now)
    c.args.waiting.now c.loop-number.waiting c.add_if.new.waiting c.loop-number.invariant c.add_if.ensures
    (λ q. below-next (λ k. IsDefined (kind_at (form_in c.args.x.now) k)) c.is_defined.result i q
    c.is_defined.ensures.1)

pub returns : goal.returns
returns c =
    rules-same (λ q. (q < c.loop-number.number) × IsDefined (kind_at (form_in c.args.x.now) q))
    (λ q. IsDefined (kind_at (form_in c.args.x.now) q)) (rules_of c.args.x.now.closed.now)
    c.args.waiting.now c.loop-number.waiting c.loop-number.invariant
    (λ q. defined-below c.args.x.now.program.now c.loop-number.number q
    (subst (λ n. n ≤ c.loop-number.number) c.len-number-end.ensures c.loop-number-test.false))
