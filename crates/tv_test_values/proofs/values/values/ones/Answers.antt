use Rattle.std.proofs.Common.{subst, ◌<◌}
use Rattle.tv_model.specs.Form.{form_of}
use Rattle.tv_test_values.proofs.Settings.{pair_assigned}
use Rattle.tv_test_values.proofs.values.values.ones.Goals as goal

pub value-requires-clause-assigned : goal.value-requires-clause-assigned
value-requires-clause-assigned c =
    let below = subst (λ n. c.loop-x.x < n) c.size-x-end.ensures.size c.loop-x-test.true
    in pair_assigned c.args.program.now c.args.found.now.v.0 c.args.found.now.w.0 (form_of c.args.found.now.formula.now) c.requires.setting c.args.s.now.size c.at.result
    (c.at.ensures.v c.args.s.now.size c.requires.individual below) (c.at.ensures.w c.args.s.now.size below)
