use Rattle.std.proofs.Common.{◌<◌, ◌∙◌, length, arith}
use Rattle.std.proofs.lemmas.List.{length-set}
use Rattle.tv_model.specs.Program.{program_of, update_of}
use Rattle.tv_update.proofs.Plans.{item_below, one_more_flag}
use Rattle.tv_update.proofs.plan.updated_flags.Goals as goal

pub counts-requires : goal.counts-requires
counts-requires c =
    item_below c.args.applied.now.program.now c.args.applied.now.action.now c.as_slice-updates.result.now
    c.loop-w.w-index c.w-item.result c.requires c.as_slice-updates.ensures c.loop-w-test.true c.w-item.is

pub index_mut-requires : goal.index_mut-requires
index_mut-requires c =
    omega (
      arith,
      item_below c.args.applied.now.program.now c.args.applied.now.action.now c.as_slice-updates.result.now
          c.loop-w.w-index c.w-item.result c.requires c.as_slice-updates.ensures c.loop-w-test.true c.w-item.is,
      c.loop-w.invariant.count,
    )

pub loop-w-preserved : goal.loop-w-preserved
loop-w-preserved c =
    let below : c.w-item.result.pred.0 < length c.loop-w.flags.items = omega (
      arith,
      item_below c.args.applied.now.program.now c.args.applied.now.action.now c.as_slice-updates.result.now
          c.loop-w.w-index c.w-item.result c.requires c.as_slice-updates.ensures c.loop-w-test.true c.w-item.is,
      c.loop-w.invariant.count,
    )
    in record {
      count = length-set c.loop-w.flags.items c.w-item.result.pred.0 c.counts.result ∙ c.loop-w.invariant.count;
      each = one_more_flag (program_of c.args.applied.now.program.now) c.args.applied.now.mode
          c.as_slice-updates.result.now c.loop-w.w-index c.w-item.result c.counts.result c.loop-w.flags.items
          c.loop-w-test.true c.w-item.is (c.counts.ensures (update_of c.w-item.result)) below
          c.loop-w.invariant.each;
    }
