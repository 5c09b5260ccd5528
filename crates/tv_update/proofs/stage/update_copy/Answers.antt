use Rattle.tv_update.proofs.Applies.{can_make_all}
use Rattle.tv_update.proofs.stage.update_copy.Goals as goal

pub make_all-made-requires-clause-can : goal.make_all-made-requires-clause-can
make_all-made-requires-clause-can c =
    rw (c.as_slice.ensures, c.new-e.ensures.structure, c.new-e.ensures.room)
    (can_make_all c.args.applied.now.program.now c.args.applied.now.action.now c.args.applied.now.picks.now
    c.args.middle.now c.args.scratch.now c.requires.can)
