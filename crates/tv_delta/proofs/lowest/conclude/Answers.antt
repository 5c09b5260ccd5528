use Rattle.tv_model.specs.Form.{form_of}
use Rattle.tv_delta.specs.Opening.{delta_at}
use Rattle.tv_delta.proofs.LowestLaws.{rest_ends, concluded}
use Rattle.tv_delta.proofs.lowest.conclude.Goals as goal

pub delta_of-d-requires-clause-ends : goal.delta_of-d-requires-clause-ends
delta_of-d-requires-clause-ends c =
    rest_ends c.args.o.now c.args.w.now c.pred_count.result c.saturating_sub-depth.result c.requires.waiting
    c.pred_count.ensures c.saturating_sub-depth.ensures

pub returns : goal.returns
returns c =
    c.atom_end.ensures.known (delta_at c.args.o.now (form_of c.args.w.now.opened)) c.delta_of-d.ensures.known
    c.delta_of-d.ensures.delta (concluded c.args.o.now c.args.w.now c.requires.waiting)
