use Rattle.std.proofs.Common.{arith, refl}
use Rattle.tv_test_engine.proofs.Picks.{picks_assigned}
use Rattle.tv_test_engine.proofs.update.given.given.Goals as goal

pub update-requires-clause-picks : goal.update-requires-clause-picks
update-requires-clause-picks c =
    picks_assigned c.args.program.now c.as_slice-actions.result.now c.index-actions-0.result
    c.as_slice-vars.result.now c.args.s.now.size c.size.result c.picks_of-picks.result c.as_slice-actions.ensures
    (omega (arith, c.if-actions-eq0.false)) c.index-actions-0.is c.as_slice-vars.ensures c.size.ensures.size
    (c.if-not-are_assigned.ensures refl)
