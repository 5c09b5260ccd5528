use Rattle.std.proofs.Common.{◌∙◌, arith}
use Rattle.tv_join.proofs.Joining.{joined-none, joined-more, joined-all}
use Rattle.tv_join.proofs.pairwise.join_into.Goals as goal

pub loop-p-init : goal.loop-p-init
loop-p-init c = joined-none c.args.s.now c.args.t.now c.join_summaries.new.s c.join_summaries.ensures.joined

pub join_next-requires-clause-like : goal.join_next-requires-clause-like
join_next-requires-clause-like c =
    (c.loop-p.invariant.size ∙ c.requires.like.0, c.loop-p.invariant.over ∙ c.requires.like.1)

pub join_next-requires-clause-same : goal.join_next-requires-clause-same
join_next-requires-clause-same c counts tuple =
    c.loop-p.invariant.left c.loop-p.p (omega arith) tuple ∙ c.requires.same c.loop-p.p counts tuple

pub loop-p-preserved : goal.loop-p-preserved
loop-p-preserved c =
    joined-more c.loop-p.p c.args.s.now c.args.t.now c.loop-p.s c.join_next.new.s c.loop-p.invariant
    c.join_next.ensures.changes c.join_next.ensures.values

pub returns : goal.returns
returns c =
    joined-all c.loop-p.p c.args.s.now c.args.t.now c.loop-p.s c.loop-p.invariant c.join_summaries.ensures.first
    c.join_summaries.ensures.second c.size.ensures.kept c.requires.like.0 c.requires.like.1
    (omega (arith, c.loop-p-test.false, c.pred_count-count.ensures))
