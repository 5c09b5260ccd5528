use Rattle.std.proofs.Common.{ap, length, arith}
use Rattle.std.proofs.lemmas.List.{length-set}
use Rattle.tv_join.proofs.Nodes.{push-next, push-start}
use Rattle.tv_join.proofs.joins.push_all.Goals as goal

pub loop-s-init : goal.loop-s-init
loop-s-init c = push-start c.args.listing.now c.args.node c.requires.none

pub push-requires : goal.push-requires
push-requires c =
    omega (arith, ap length c.loop-s.invariant, length-set c.args.listing.now c.args.node c.loop-s.yielded, c.requires.node)

pub loop-s-preserved : goal.loop-s-preserved
loop-s-preserved c =
    push-next c.args.listing.now c.loop-s.listing c.push.new.self c.args.node c.loop-s.yielded c.in-Some.s c.requires.node
    c.loop-s.invariant c.in_ok-push.ensures
