use Rattle.tv_tree.specs.Names.{names_of}
use Rattle.tv_tvs.proofs.Twice.{pred_added}
use Rattle.tv_tvs.proofs.names.predicate_names.Goals as goal

pub loop-pred-preserved : goal.loop-pred-preserved
loop-pred-preserved c =
    pred_added c.args.preds.now (names_of c.loop-pred.names.keys) (names_of c.add.new.names.keys) c.loop-pred.pred-index c.pred-item.result
    c.as_slice.result.now c.in_ok-add.field-0 c.requires c.loop-pred-test.true c.pred-item.is c.as_slice.ensures c.loop-pred.invariant
    c.in_ok-add.ensures.added c.in_ok-add.ensures.keys
