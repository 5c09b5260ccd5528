use Rattle.std.proofs.Common.{◌∙◌, [], sym, subst, take}
use Rattle.std.proofs.lemmas.List.{take_all}
use Rattle.std.proofs.lemmas.List.Elements.{All-cons, All-contains, All-nil}
use Rattle.tv_lemmas.proofs.Options.{IfErr-same}
use Rattle.tv_step_laws.specs.Shaped.{IsShaped}
use Rattle.tv_step.specs.Steps.{IsFocusCause}
use Rattle.tv_stages_laws.specs.declared.record.FocusedAt.{FocusedAt}
use Rattle.tv_stages_laws.specs.Stages.{IsFocusedAt}
use Rattle.tv_stages.specs.Tasks.{IsReadyToRecord, task_program}
use Rattle.tv_stages.specs.Turns.{turn_place}
use Rattle.tv_stages.proofs.Telling.{all-pushed, item-there, map-pushed, take-next}
use Rattle.tv_stages.proofs.Turning.{cause-in}
use Rattle.tv_stages.proofs.turn.focused_each.Goals as goal

pub focused_at-requires : goal.focused_at-requires
focused_at-requires c =
    let p = task_program c.args.x.now
    in let s = c.s-item.result
    in record {
      ready = subst (IsReadyToRecord c.args.x.now) (sym c.loop-s.invariant.same) c.requires.ready;
      place = c.requires.place;
      shaped = All-cons (IsShaped p) s []
          (All-contains (IsShaped p) c.args.at_hand.now s c.requires.shaped
          (item-there c.args.at_hand.now c.loop-s.s-index s c.loop-s-test.true c.s-item.is)) (All-nil (IsShaped p));
    }

pub returns-in_err-focused_at-clause-cause : goal.returns-in_err-focused_at-clause-cause
returns-in_err-focused_at-clause-cause c =
    let place = turn_place c.args.turn.now
    in let e = c.in_err-focused_at.field-0.0
    in IfErr-same (IsFocusCause place c.args.at_hand.now) c.from_residual.result e c.from_residual.ensures.1
    (cause-in place c.args.at_hand.now c.s-item.result e
    (item-there c.args.at_hand.now c.loop-s.s-index c.s-item.result c.loop-s-test.true c.s-item.is)
    c.in_err-focused_at.ensures.cause)

pub loop-s-preserved : goal.loop-s-preserved
loop-s-preserved c = record {
  at_hand = map-pushed (λ (at : FocusedAt). at.at_hand) c.loop-s.each _ _ c.s-item.result
      (take c.loop-s.s-index c.args.at_hand.now) c.in_ok-push.ensures c.in_ok-focused_at.ensures.at_hand
      c.loop-s.invariant.at_hand
      ∙ sym (take-next c.args.at_hand.now c.loop-s.s-index c.s-item.result c.loop-s-test.true c.s-item.is);
  focused = all-pushed (IsFocusedAt (task_program c.args.x.now) (turn_place c.args.turn.now)) c.loop-s.each _ _
      c.in_ok-push.ensures c.loop-s.invariant.focused c.in_ok-focused_at.ensures.focused;
  same = cc;
}

pub returns-clause-at_hand : goal.returns-clause-at_hand
returns-clause-at_hand c =
    c.loop-s.invariant.at_hand ∙ take_all c.loop-s.s-index c.args.at_hand.now c.loop-s-test.false
