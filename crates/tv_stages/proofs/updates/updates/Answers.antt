use Rattle.std.proofs.Common.{length, rules, subst, sym}
use Rattle.std.proofs.lemmas.Iterator.Adapters.{YieldsList-from_vec}
use Rattle.std.proofs.lemmas.Iterator.Consumers.{YieldsList-turn}
use Rattle.std.proofs.lemmas.List.Elements.{All-contains}
use Rattle.tv_lemmas.proofs.Options.{IfErr-same}
use Rattle.tv_step_laws.specs.Shaped.{IsShaped}
use Rattle.tv_step.specs.Steps.{IsCauseOfUpdates}
use Rattle.tv_stages_laws.specs.declared.record.UpdatedAt.{UpdatedAt}
use Rattle.tv_stages_laws.specs.Stages.{IsUpdatedAt}
use Rattle.tv_stages.specs.Tasks.{IsReadyToRecord, course_action, task_program}
use Rattle.tv_stages.proofs.Telling.{all-pushed, map-pushed}
use Rattle.tv_stages.proofs.Updating.{hand-cause}
use Rattle.tv_stages.proofs.updates.updates.Goals as goal

pub updated_at-requires-clause-ready : goal.updated_at-requires-clause-ready
updated_at-requires-clause-ready c =
    subst (IsReadyToRecord c.args.x.now) (sym c.loop-s.invariant.same) c.requires.ready

pub updated_at-requires-clause-shaped : goal.updated_at-requires-clause-shaped
updated_at-requires-clause-shaped c =
    let turn = YieldsList-turn
    (YieldsList-from_vec {s = c.into_iter-s-iterator.result} c.args.at_hand (search rules) (search rules))
    c.loop-s.yielded c.loop-s.s-iterator c.loop-s.yielded_by c.next.result c.next.new.self c.in-Some.s c.in-Some.is
    c.next.ensures.steps
    in All-contains (IsShaped (task_program c.args.x.now)) c.args.at_hand c.in-Some.s c.requires.shaped
    (length c.loop-s.yielded, turn.0, sym turn.1)

pub returns-in_err-updated_at-clause-cause : goal.returns-in_err-updated_at-clause-cause
returns-in_err-updated_at-clause-cause c =
    let turn = YieldsList-turn
    (YieldsList-from_vec {s = c.into_iter-s-iterator.result} c.args.at_hand (search rules) (search rules))
    c.loop-s.yielded c.loop-s.s-iterator c.loop-s.yielded_by c.next.result c.next.new.self c.in-Some.s c.in-Some.is
    c.next.ensures.steps
    in let action = course_action c.args.course.now
    in let e = c.in_err-updated_at.field-0.0
    in IfErr-same (IsCauseOfUpdates action c.args.at_hand) c.from_residual.result e c.from_residual.ensures.1
    (hand-cause action c.args.at_hand c.in-Some.s e (length c.loop-s.yielded, turn.0, sym turn.1)
    c.in_err-updated_at.ensures.cause)

pub loop-s-preserved : goal.loop-s-preserved
loop-s-preserved c = record {
  at_hand = map-pushed (λ (at : UpdatedAt). at.at_hand) c.loop-s.each _ _ c.in-Some.s c.loop-s.yielded
      c.in_ok-push.ensures c.in_ok-updated_at.ensures.at_hand c.loop-s.invariant.at_hand;
  updated = all-pushed (IsUpdatedAt (task_program c.args.x.now) c.args.x.now.mode (course_action c.args.course.now))
      c.loop-s.each _ _ c.in_ok-push.ensures c.loop-s.invariant.updated c.in_ok-updated_at.ensures.updated;
  same = cc;
}
