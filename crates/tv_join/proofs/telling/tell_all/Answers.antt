use Rattle.std.proofs.Common.{arith}
use Rattle.tv_model.specs.Program.{program_of}
use Rattle.tv_join.specs.State.{IsAbsorbed, listing_of}
use Rattle.tv_work.specs.Task.{task_of}
use Rattle.tv_join.proofs.Greatest.{nothing-said, up-all, up-next, up-none}
use Rattle.tv_join.proofs.telling.tell_all.Goals as goal

pub loop-edge-init : goal.loop-edge-init
loop-edge-init c =
    up-none (task_of c.args.x.now) c.args.joins.now.nodes c.in_ok-told.told
    (nothing-said (task_of c.args.x.now) (listing_of c.args.joins.now.nodes) c.len-count.result c.in_ok-told.told
    c.len-count.ensures c.in_ok-told.ensures)

pub tell_edge-requires-clause-said : goal.tell_edge-requires-clause-said
tell_edge-requires-clause-said c = c.loop-edge.invariant.said

pub loop-edge-preserved : goal.loop-edge-preserved
loop-edge-preserved c =
    up-next (task_of c.args.x.now) c.args.joins.now.nodes c.loop-edge.edge c.loop-edge.told c.tell_edge.new.told
    c.loop-edge.invariant c.in_ok-tell_edge.ensures.said c.in_ok-tell_edge.ensures.tells
    c.in_ok-tell_edge.ensures.told

pub returns : goal.returns
returns c =
    up-all (task_of c.args.x.now) c.args.joins.now.nodes
    (IsAbsorbed (program_of c.args.x.now.program.now) c.args.joins.now.nodes)
    c.args.values.now c.requires.followed.3 c.loop-edge.edge c.loop-edge.told c.loop-edge.invariant
    (omega (arith, c.loop-edge-test.false, c.len-count.ensures))
