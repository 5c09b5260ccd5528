use Rattle.tv_report.proofs.NodeLaws.{put_more}
use Rattle.tv_report.proofs.nodes.list.Goals as goal

pub loop-s-preserved : goal.loop-s-preserved
loop-s-preserved c =
    put_more c.args.listing.now c.loop-s.listing c.push.new.self c.args.node c.loop-s.yielded c.in-Some.s c.requires c.loop-s.invariant c.in_ok-push.ensures
