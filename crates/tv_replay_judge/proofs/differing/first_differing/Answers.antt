use Rattle.std.proofs.Common.{List, length, refl, ap, arith}
use Rattle.tv_model.specs.Program.{action_of, program_of}
use Rattle.tv_model.specs.declared.program.Pred.{Pred}
use Rattle.tv_replay_judge.specs.Same.{IsSameAt}
use Rattle.tv_replay_judge.proofs.Preds.{below-all, below-broken, below-more, has-variables, item-in}
use Rattle.tv_replay_judge.proofs.differing.first_differing.Goals as goal

pub is_same_at-requires-clause-variables : goal.is_same_at-requires-clause-variables
is_same_at-requires-clause-variables c =
    let preds = c.args.program.now.vocab.preds
    in let at = item-in c.as_slice-pred-items.result.now preds c.loop-number.number c.pred-item.result c.as_slice-pred-items.ensures
    c.loop-number-test.true c.pred-item.is
    in has-variables (program_of c.args.program.now) c.requires.valid preds refl c.loop-number.number c.pred-item.result at.0 at.1

pub returns-then-not-is_same_at : goal.returns-then-not-is_same_at
returns-then-not-is_same_at c =
    let preds = c.args.program.now.vocab.preds
    in let at = item-in c.as_slice-pred-items.result.now preds c.loop-number.number c.pred-item.result c.as_slice-pred-items.ensures
    c.loop-number-test.true c.pred-item.is
    in record {
      first = below-broken preds (IsSameAt (action_of c.args.action.now) c.args.given.now c.args.new.now) c.loop-number.number
          c.pred-item.result at.0 at.1 c.loop-number.invariant c.if-not-is_same_at.ensures;
    }

pub loop-number-preserved : goal.loop-number-preserved
loop-number-preserved c =
    let preds = c.args.program.now.vocab.preds
    in let at = item-in c.as_slice-pred-items.result.now preds c.loop-number.number c.pred-item.result c.as_slice-pred-items.ensures
    c.loop-number-test.true c.pred-item.is
    in below-more preds (IsSameAt (action_of c.args.action.now) c.args.given.now c.args.new.now) c.loop-number.number c.pred-item.result at.0
    at.1 c.loop-number.invariant (c.if-not-is_same_at.ensures.0 refl)

pub returns : goal.returns
returns c = record {
  first = below-all c.args.program.now.vocab.preds (IsSameAt (action_of c.args.action.now) c.args.given.now c.args.new.now) c.loop-number.number
      (omega (arith, c.loop-number-test.false, ap (λ (ps : List Pred). length ps) c.as_slice-pred-items.ensures)) c.loop-number.invariant;
}
