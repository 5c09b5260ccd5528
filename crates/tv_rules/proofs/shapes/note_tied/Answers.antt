use Rattle.std.proofs.Common.{arith}
use Rattle.tv_model.specs.Program.{rule_of}
use Rattle.tv_rules.specs.EntryForms.{numbers_of}
use Rattle.tv_rules.proofs.RuleTests.{more_free-noted}
use Rattle.tv_rules.proofs.shapes.note_tied.Goals as goal

pub loop-preserved : goal.loop-preserved
loop-preserved c =
    more_free-noted (rule_of c.args.rule.now) (numbers_of c.args.vars.now) (numbers_of c.loop.vars)
    (numbers_of c.note.new.vars) c.in-Some.v.0 (omega (arith, c.if-v-lt32.true)) c.loop.invariant
    c.in_ok-note-in-Some.ensures
