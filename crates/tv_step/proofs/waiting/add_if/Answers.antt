use Rattle.std.proofs.Common.{◌≡◌, inr}
use Rattle.std.specs.Prelude.{IsTrue}
use Rattle.tv_rules.specs.EntryForms.{rules_of}
use Rattle.tv_step.proofs.Noting.{rules-more, rules-none}
use Rattle.tv_step.proofs.waiting.add_if.Goals as goal

pub returns-then-not-on : goal.returns-then-not-on
returns-then-not-on c =
    rules-none (λ q. (q ≡ c.args.number) × IsTrue c.args.on) (rules_of c.args.x.now.closed.now)
    c.args.waiting.now (λ q (same, on). absurd (cc on))

pub returns : goal.returns
returns c =
    rules-more (λ q. ⊥) (λ q. (q ≡ c.args.number) × IsTrue c.args.on) c.args.number
    (rules_of c.args.x.now.closed.now) c.args.waiting.now c.args.waiting.now c.add_pred.new.self
    (rules-none (λ q. ⊥) (rules_of c.args.x.now.closed.now) c.args.waiting.now (λ q none. none))
    c.add_pred.ensures (λ q (same, on). inr same)
