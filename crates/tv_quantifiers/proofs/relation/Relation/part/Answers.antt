use Rattle.std.proofs.Common.{arith}
use Rattle.tv_row.specs.Places.{entry_in}
use Rattle.tv_quantifiers.specs.Rows.{part_at}
use Rattle.tv_quantifiers.proofs.Filled.{filled-none, filled-next, filled-all}
use Rattle.tv_quantifiers.proofs.relation.Relation.part.Goals as goal

pub loop-i-init : goal.loop-i-init
loop-i-init c =
    filled-none c.args.chunk (part_at c.args.part (entry_in c.args.self.now)) c.of-values.result c.of-values.ensures

pub loop-i-preserved : goal.loop-i-preserved
loop-i-preserved c =
    filled-next c.args.chunk c.loop-i.i (part_at c.args.part (entry_in c.args.self.now)) c.loop-i.values
    c.with-values.result c.part_value.result c.loop-i.invariant (omega (arith, c.min-i-end.ensures))
    c.with-values.ensures c.part_value.ensures

pub returns : goal.returns
returns c =
    filled-all c.args.size c.args.chunk c.loop-i.i c.min-i-end.result (part_at c.args.part (entry_in c.args.self.now))
    c.loop-i.values c.loop-i.invariant (omega (arith, c.min-i-end.ensures)) (omega arith)
