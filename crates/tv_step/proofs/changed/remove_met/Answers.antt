use Rattle.std.proofs.Common.{Contains, arith, get_or, subst}
use Rattle.std.proofs.lemmas.List.{get_or_default}
use Rattle.tv_model.proofs.Lists.{Contains-map}
use Rattle.tv_model.specs.declared.formula.PredId.{PredId}
use Rattle.tv_step.specs.Redefined.{IsOfRedefined}
use Rattle.tv_step.proofs.Redefining.{fewer-more, fewer-none}
use Rattle.tv_step.proofs.changed.remove_met.Goals as goal

pub loop-p-init : goal.loop-p-init
loop-p-init c = fewer-none (IsOfRedefined c.args.redefined) c.args.set.now

pub loop-p-preserved : goal.loop-p-preserved
loop-p-preserved c =
    let preds = c.args.redefined.preds.now
    in let k = c.loop-p.p-index
    in fewer-more (IsOfRedefined c.args.redefined) (Contains c.defining_at.result.now) c.args.set.now c.loop-p.set
    c.remove_all.new.self
    (λ n at. (
      _,
      Contains-map (λ (p : PredId). p.0) _ preds (k, c.loop-p-test.true, get_or_default preds k _ _ c.loop-p-test.true),
      subst (λ xs. Contains xs n) c.defining_at.ensures at,
    )) c.loop-p.invariant c.remove_all.ensures

pub remove_all-requires : goal.remove_all-requires
remove_all-requires c =
    let preds = c.args.redefined.preds.now
    in let k = c.loop-p.p-index
    in let ns = c.defining_at.result.now
    in λ i d lt. omega (
      arith,
      c.loop-p.invariant.count,
      c.requires (get_or ns i d) (
        _,
        Contains-map (λ (p : PredId). p.0) _ preds (k, c.loop-p-test.true, get_or_default preds k _ _ c.loop-p-test.true),
        subst (λ xs. Contains xs (get_or ns i d)) c.defining_at.ensures
            (i, lt, get_or_default ns i (get_or ns i d) d lt),
      ),
    )
