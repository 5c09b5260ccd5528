use Rattle.std.proofs.Common.{◌∙◌, sym, arith}
use Rattle.std.proofs.lemmas.Option.{none-some}
use Rattle.tv_join.proofs.Joining.{flags-none, flags-more, flags-all}
use Rattle.tv_join.proofs.pairwise.join_summaries.Goals as goal

pub loop-u-init : goal.loop-u-init
loop-u-init c = flags-none c.args.s.now c.args.t.now c.size.ensures.kept c.requires.unmarked

pub is_summary-on-requires-clause-first : goal.is_summary-on-requires-clause-first
is_summary-on-requires-clause-first c =
    omega (arith, c.loop-u-test.true, c.size-count.ensures.size, c.requires.size, c.loop-u.invariant.size)

pub set_summary-requires-clause-individual : goal.set_summary-requires-clause-individual
set_summary-requires-clause-individual c =
    omega (arith, c.loop-u-test.true, c.size-count.ensures.size, c.requires.size, c.loop-u.invariant.size)

pub set_summary-requires-clause-not_fresh : goal.set_summary-requires-clause-not_fresh
set_summary-requires-clause-not_fresh c on e = none-some c.loop-u.u (sym c.loop-u.invariant.unmarked ∙ e)

pub loop-u-preserved : goal.loop-u-preserved
loop-u-preserved c =
    flags-more c.loop-u.u c.args.s.now c.args.t.now c.loop-u.s c.set_summary.new.self c.is_summary-on.result c.loop-u.invariant
    (omega (arith, c.loop-u-test.true, c.size-count.ensures.size, c.requires.size)) c.set_summary.ensures.value
    c.set_summary.ensures.kept c.is_summary-on.ensures

pub returns-clause-joined : goal.returns-clause-joined
returns-clause-joined c =
    flags-all c.loop-u.u c.args.s.now c.args.t.now c.loop-u.s c.loop-u.invariant c.size.ensures.kept c.size-count.ensures.kept
    c.requires.size (omega (arith, c.loop-u-test.false, c.size-count.ensures.size))
