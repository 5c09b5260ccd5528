use Rattle.std.proofs.Common.{◌∙◌, ap, arith}
use Rattle.std.specs.Prelude.{slice_get}
use Rattle.tv_struct.specs.StructureRows.{row_at}
use Rattle.tv_join.proofs.Joining.{rows-none, rows-more, rows-all, joined-rows-length, joined-values}
use Rattle.tv_join.proofs.pairwise.join_rows.Goals as goal

pub loop-u-init : goal.loop-u-init
loop-u-init c = rows-none c.args.p.0 c.args.s.now c.args.t.now

pub row-mine-requires-clause-arity : goal.row-mine-requires-clause-arity
row-mine-requires-clause-arity c =
    ap (λ x. slice_get x c.args.p.0) (c.loop-u.invariant.changes.over ∙ c.requires.like.1) ∙ c.requires.arity

pub row-mine-requires-clause-individual : goal.row-mine-requires-clause-individual
row-mine-requires-clause-individual c =
    omega (arith, c.loop-u-test.true, c.size-count.ensures.size, c.requires.like.0, c.loop-u.invariant.changes.size)

pub set_row-requires-clause-arity : goal.set_row-requires-clause-arity
set_row-requires-clause-arity c =
    ap (λ x. slice_get x c.args.p.0) (c.loop-u.invariant.changes.over ∙ c.requires.like.1) ∙ c.requires.arity

pub set_row-requires-clause-individual : goal.set_row-requires-clause-individual
set_row-requires-clause-individual c =
    omega (arith, c.loop-u-test.true, c.size-count.ensures.size, c.requires.like.0, c.loop-u.invariant.changes.size)

pub set_row-requires-clause-size : goal.set_row-requires-clause-size
set_row-requires-clause-size c =
    joined-rows-length c.loop-u.s c.args.t.now c.args.p.0 c.loop-u.u c.row-mine.result c.row-other.result c.join-joined.result
    (c.loop-u.invariant.changes.size ∙ c.requires.like.0) c.row-mine.ensures c.row-other.ensures c.join-joined.ensures

pub loop-u-preserved : goal.loop-u-preserved
loop-u-preserved c =
    rows-more c.args.p.0 c.loop-u.u c.args.s.now c.args.t.now c.loop-u.s c.set_row.new.self c.join-joined.result
    c.requires.like.0 (omega (arith, c.loop-u-test.true, c.size-count.ensures.size, c.requires.like.0)) c.loop-u.invariant
    c.set_row.ensures.value c.set_row.ensures.over c.set_row.ensures.row
    (joined-values c.row-mine.result c.row-other.result c.join-joined.result (row_at c.loop-u.s c.args.p.0 c.loop-u.u)
    (row_at c.args.t.now c.args.p.0 c.loop-u.u) c.row-mine.ensures c.row-other.ensures c.join-joined.ensures)
    c.set_row.ensures.others

pub returns-clause-values : goal.returns-clause-values
returns-clause-values c =
    rows-all c.args.p.0 c.loop-u.u c.args.s.now c.args.t.now c.loop-u.s
    (ap (λ x. slice_get x c.args.p.0) c.requires.like.1 ∙ c.requires.arity) c.loop-u.invariant
    (omega (arith, c.loop-u-test.false, c.size-count.ensures.size, c.requires.like.0))
