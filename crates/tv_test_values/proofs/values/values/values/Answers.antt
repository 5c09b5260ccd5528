use Rattle.tv_model.specs.Form.{form_of}
use Rattle.tv_test_values.proofs.Settings.{closed_assigned}
use Rattle.tv_test_values.proofs.values.values.values.Goals as goal

pub value-requires-clause-assigned : goal.value-requires-clause-assigned
value-requires-clause-assigned c =
    closed_assigned c.args.program.now c.in_ok-found.found.v.0 c.in_ok-found.found.w.0 (form_of c.in_ok-found.found.formula.now) c.in_ok-found.ensures
    c.args.s.now.size _ (c.is_closed.ensures.v c.if-is_closed.true) (c.is_closed.ensures.w c.if-is_closed.true)
