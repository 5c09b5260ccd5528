use Rattle.std.proofs.Common.{◌↔◌, ◌∙◌, Bool, IsTrue, subst, arith}
use Rattle.tv_model.specs.Program.{rule_of}
use Rattle.tv_model.specs.Rules.{MeetsRule}
use Rattle.tv_two_valued.specs.TwoValued.{heap_of}
use Rattle.tv_replay_judge.proofs.Rules.{first-all, first-broken, first-more}
use Rattle.tv_replay_judge.proofs.first.first_of.Goals as goal

pub returns-then-not-branch-clause-first : goal.returns-then-not-branch-clause-first
returns-then-not-branch-clause-first c =
    let Answer : Bool → Type 0 = λ b. IsTrue b ↔ MeetsRule (heap_of c.args.s.now) (rule_of c.index-rules-n.result)
    in first-broken (heap_of c.args.s.now) c.args.rules.now c.loop-n.n c.index-rules-n.result (omega (arith, c.loop-n-test.true))
    c.index-rules-n.is c.loop-n.invariant.0 (subst Answer c.if-not-branch.true c.in_ok-meets_rule.ensures.met)

pub loop-n-preserved : goal.loop-n-preserved
loop-n-preserved c =
    let Answer : Bool → Type 0 = λ b. IsTrue b ↔ MeetsRule (heap_of c.args.s.now) (rule_of c.index-rules-n.result)
    in (
      first-more (heap_of c.args.s.now) c.args.rules.now c.loop-n.n c.index-rules-n.result (omega (arith, c.loop-n-test.true))
          c.index-rules-n.is c.loop-n.invariant.0 (subst Answer c.if-not-branch.false c.in_ok-meets_rule.ensures.met),
      c.in_ok-meets_rule.ensures.scratch ∙ c.loop-n.invariant.1,
    )

pub returns-clause-first : goal.returns-clause-first
returns-clause-first c =
    first-all (heap_of c.args.s.now) c.args.rules.now c.loop-n.n (omega (arith, c.loop-n-test.false)) c.loop-n.invariant.0
