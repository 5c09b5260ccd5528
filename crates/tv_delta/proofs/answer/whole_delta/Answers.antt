use Rattle.tv_model.specs.Form.{form_of, vars_of}
use Rattle.tv_delta.proofs.AtomSteps.{put_ends}
use Rattle.tv_delta.proofs.answer.whole_delta.Goals as goal

pub delta_of-requires-clause-ends : goal.delta_of-requires-clause-ends
delta_of-requires-clause-ends c =
    let put = rw c.kept.ensures at c.in-Ok.ensures.formula
    in put_ends c.args.o.now (vars_of c.args.vars) (form_of c.args.body.now) (form_of c.in-Ok.x) c.pred_count.result
    c.requires.valid c.requires.formula put c.pred_count.ensures
