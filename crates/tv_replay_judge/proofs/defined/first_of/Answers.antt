use Rattle.std.proofs.Common.{◌∙◌, List, length, refl, sym, ap, subst, arith}
use Rattle.tv_eval.specs.Bound.{bound_room}
use Rattle.tv_model.specs.Program.{kind_of, program_of}
use Rattle.tv_model.specs.declared.program.Pred.{Pred}
use Rattle.tv_replay_laws.specs.Judged.{IsAsDefined}
use Rattle.tv_two_valued.specs.TwoValued.{heap_of}
use Rattle.tv_replay_judge.specs.Same.{CanCompareKind}
use Rattle.tv_replay_judge.proofs.Preds.{below-all, below-broken, below-more, can-compare, item-in}
use Rattle.tv_replay_judge.proofs.defined.first_of.Goals as goal

pub is_as_defined-requires-clause-can : goal.is_as_defined-requires-clause-can
is_as_defined-requires-clause-can c =
    let preds = c.args.program.now.vocab.preds
    in let s = c.args.s.now
    in let at = item-in c.as_slice-pred-items.result.now preds c.loop-number.number c.pred-item.result c.as_slice-pred-items.ensures
    c.loop-number-test.true c.pred-item.is
    in subst (λ e. CanCompareKind s (bound_room e) c.loop-number.number c.pred-item.result.arity (kind_of c.pred-item.result.kind))
    (sym c.loop-number.invariant.0)
    (can-compare (program_of c.args.program.now) s (bound_room c.args.evaluator.now) c.requires.ready preds refl c.loop-number.number
    c.pred-item.result at.0 at.1)

pub returns-then-not-is_as_defined-clause-first : goal.returns-then-not-is_as_defined-clause-first
returns-then-not-is_as_defined-clause-first c =
    let preds = c.args.program.now.vocab.preds
    in let at = item-in c.as_slice-pred-items.result.now preds c.loop-number.number c.pred-item.result c.as_slice-pred-items.ensures
    c.loop-number-test.true c.pred-item.is
    in below-broken preds (IsAsDefined (heap_of c.args.s.now)) c.loop-number.number c.pred-item.result at.0 at.1 c.loop-number.invariant.1
    c.if-not-is_as_defined.ensures.same

pub loop-number-preserved : goal.loop-number-preserved
loop-number-preserved c =
    let preds = c.args.program.now.vocab.preds
    in let at = item-in c.as_slice-pred-items.result.now preds c.loop-number.number c.pred-item.result c.as_slice-pred-items.ensures
    c.loop-number-test.true c.pred-item.is
    in (
      c.is_as_defined.ensures.kept ∙ c.loop-number.invariant.0,
      below-more preds (IsAsDefined (heap_of c.args.s.now)) c.loop-number.number c.pred-item.result at.0 at.1 c.loop-number.invariant.1
          (c.if-not-is_as_defined.ensures.same.0 refl),
    )

pub returns-clause-first : goal.returns-clause-first
returns-clause-first c =
    below-all c.args.program.now.vocab.preds (IsAsDefined (heap_of c.args.s.now)) c.loop-number.number
    (omega (arith, c.loop-number-test.false, ap (λ (ps : List Pred). length ps) c.as_slice-pred-items.ensures)) c.loop-number.invariant.1
