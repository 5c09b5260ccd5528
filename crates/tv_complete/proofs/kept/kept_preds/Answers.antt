use Rattle.std.proofs.Common.{◌∙◌, ap, arith, map, sym, take_all}
use Rattle.tv_model.specs.Program.{pred_of}
use Rattle.tv_model.specs.declared.program.Pred.{Pred}
use Rattle.tv_model.proofs.Lists.{map-compose}
use Rattle.tv_complete.specs.Kept.{core_if_named}
use Rattle.tv_complete.proofs.kept.kept_preds.Goals as goal

pub returns : goal.returns
returns c =
    ap (map pred_of) c.from_vec.ensures ∙ c.loop-pred.invariant
    ∙ ap (map (λ (pred : Pred). core_if_named c.args.names.now (pred_of pred)))
    (take_all c.loop-pred.pred-index c.args.preds.now (omega (arith, c.loop-pred-test.false)))
    ∙ sym (map-compose pred_of (core_if_named c.args.names.now) c.args.preds.now)
