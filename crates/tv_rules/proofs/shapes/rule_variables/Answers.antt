use Rattle.std.proofs.Common.{arith}
use Rattle.tv_model.specs.Program.{rule_of}
use Rattle.tv_model.specs.Rules.{IsFreeInRule}
use Rattle.tv_rules.specs.EntryForms.{numbers_of}
use Rattle.tv_rules.proofs.RuleTests.{free-all, free-kept, free-more}
use Rattle.tv_rules.proofs.shapes.rule_variables.Goals as goal

pub loop-v-init : goal.loop-v-init
loop-v-init c =
    free-kept (rule_of c.args.rule.now) (numbers_of c.in_ok-vars.vars) (numbers_of c.note_tied.new.vars) 0
    (λ w. (c.in_ok-vars.ensures w, λ less free. absurd (omega (arith, less)))) c.in_ok-note_tied.ensures

pub loop-v-preserved : goal.loop-v-preserved
loop-v-preserved c =
    free-more (rule_of c.args.rule.now) (numbers_of c.loop-v.vars) (numbers_of c.note_next.new.vars) c.loop-v.v
    c.loop-v.invariant c.in_ok-note_next.ensures.0 c.in_ok-note_next.ensures.1

pub returns : goal.returns
returns c =
    free-all (λ w. IsFreeInRule w (rule_of c.args.rule.now)) (numbers_of c.loop-v.vars) c.loop-v.v
    (omega (arith, c.loop-v-test.false)) c.loop-v.invariant
