-- One more variable, and all of them.
use Rattle.tv_model.specs.Program.{rule_of}
use Rattle.tv_model.specs.Rules.{IsFreeInRule}
use Rattle.tv_concrete.proofs.RuleLemmas.{free-more, free-all}
use Rattle.tv_concrete.proofs.rules.free_ones.Goals as goal

pub loop-v-preserved : goal.loop-v-preserved
loop-v-preserved c =
    free-more (λ w. IsFreeInRule w
    (rule_of c.args.rule.now)) c.args.all.now c.loop-v.v-index c.loop-v.vars c.note.new.vars
    c.loop-v-test.true c.loop-v.invariant c.in_ok-note.ensures

pub returns : goal.returns
returns c =
    free-all (λ w. IsFreeInRule w
    (rule_of c.args.rule.now)) c.args.all.now c.loop-v.v-index c.loop-v.vars c.loop-v-test.false c.loop-v.invariant
