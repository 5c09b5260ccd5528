use Rattle.tv_coerce_members.specs.Members.{members_of}
use Rattle.tv_coerce_members.proofs.Gathering.{levels-more}
use Rattle.tv_coerce_members.proofs.levels.levels_of.Goals as goal

pub loop-left-preserved : goal.loop-left-preserved
loop-left-preserved c =
    levels-more (members_of c.args.members.now) c.loop-left.left c.loop-left.levels c.push.new.self
    (record { own = c.in_ok-level_of.field-0; last = c.in_ok-level_of-2.field-0 }) c.loop-left.invariant c.in_ok-level_of.ensures
    c.in_ok-level_of-2.ensures c.in_ok-push.ensures
