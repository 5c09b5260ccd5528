use Rattle.tv_eval.specs.Bound.{bound_room}
use Rattle.tv_update.proofs.Applies.{can_make_all}
use Rattle.tv_update.proofs.prepare.updated.Goals as goal

pub make_all-requires-clause-can : goal.make_all-requires-clause-can
make_all-requires-clause-can c =
    rw (c.as_slice.ensures, c.requires.structure)
    (can_make_all c.args.applied.now.program.now c.args.applied.now.action.now c.args.applied.now.picks.now
    c.args.middle.now
    (bound_room c.args.e.now) c.requires.can)
