use Rattle.std.proofs.Common.{◌<◌}
use Rattle.tv_update_laws.specs.Applied.{kind_at}
use Rattle.tv_rules.specs.EntryForms.{rules_of}
use Rattle.tv_update.specs.Plan.{IsDefined}
use Rattle.tv_step.specs.Setting.{form_in}
use Rattle.tv_step.specs.Waiting.{HasRulesOf}
use Rattle.tv_step.proofs.waiting.add_defined.Given as goal

abbrev pub invariant-loop-number : goal.invariant-loop-number
invariant-loop-number l =
    HasRulesOf (λ q. (q < l.number) × IsDefined (kind_at (form_in l.x) q)) (rules_of l.x.closed.now)
    l.fn.waiting l.waiting
