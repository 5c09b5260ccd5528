use Rattle.std.proofs.Common.{length, rules, subst, sym, Contains}
use Rattle.std.proofs.lemmas.Iterator.Adapters.{YieldsList-from_vec}
use Rattle.std.proofs.lemmas.Iterator.Consumers.{YieldsList-turn}
use Rattle.tv_lemmas.proofs.Options.{IfErr-same}
use Rattle.tv_step.specs.Steps.{IsCauseOfUpdate}
use Rattle.tv_stages_laws.specs.declared.record.PickedUpdate.{PickedUpdate}
use Rattle.tv_stages_laws.specs.Stages.{IsPickedUpdate}
use Rattle.tv_stages.specs.Tasks.{CanUpdate, course_action, task_program}
use Rattle.tv_stages.proofs.Telling.{all-pushed, map-pushed}
use Rattle.tv_stages.proofs.Updating.{list-below, list-count, pick-cause}
use Rattle.tv_stages.proofs.updates.picked_each.Goals as goal

pub picked_update-requires-clause-case : goal.picked_update-requires-clause-case
picked_update-requires-clause-case c =
    subst (λ tools. CanUpdate c.args.x.now tools c.args.case.now) (sym c.loop-individuals.invariant.same)
    c.requires.case

pub picked_update-requires-clause-count : goal.picked_update-requires-clause-count
picked_update-requires-clause-count c =
    let turn = YieldsList-turn
    (YieldsList-from_vec {s = c.into_iter-individuals-iterator.result} c.args.lists (search rules) (search rules))
    c.loop-individuals.yielded c.loop-individuals.individuals-iterator c.loop-individuals.yielded_by c.next.result
    c.next.new.self c.in-Some.individuals c.in-Some.is c.next.ensures.steps
    in let there : Contains c.args.lists c.in-Some.individuals = (length c.loop-individuals.yielded, turn.0, sym turn.1)
    in list-count (course_action c.args.case.now.course.now) c.args.case.now.from.now c.in-Some.individuals
    (subst (λ ls. Contains ls c.in-Some.individuals) c.requires.lists there)

pub picked_update-requires-clause-individuals : goal.picked_update-requires-clause-individuals
picked_update-requires-clause-individuals c =
    let turn = YieldsList-turn
    (YieldsList-from_vec {s = c.into_iter-individuals-iterator.result} c.args.lists (search rules) (search rules))
    c.loop-individuals.yielded c.loop-individuals.individuals-iterator c.loop-individuals.yielded_by c.next.result
    c.next.new.self c.in-Some.individuals c.in-Some.is c.next.ensures.steps
    in let there : Contains c.args.lists c.in-Some.individuals = (length c.loop-individuals.yielded, turn.0, sym turn.1)
    in list-below (course_action c.args.case.now.course.now) c.args.case.now.from.now c.in-Some.individuals
    (subst (λ ls. Contains ls c.in-Some.individuals) c.requires.lists there)

pub returns-in_err-picked_update-clause-cause : goal.returns-in_err-picked_update-clause-cause
returns-in_err-picked_update-clause-cause c =
    let turn = YieldsList-turn
    (YieldsList-from_vec {s = c.into_iter-individuals-iterator.result} c.args.lists (search rules) (search rules))
    c.loop-individuals.yielded c.loop-individuals.individuals-iterator c.loop-individuals.yielded_by c.next.result
    c.next.new.self c.in-Some.individuals c.in-Some.is c.next.ensures.steps
    in let there : Contains c.args.lists c.in-Some.individuals = (length c.loop-individuals.yielded, turn.0, sym turn.1)
    in let action = course_action c.args.case.now.course.now
    in let s = c.args.case.now.from.now
    in let e = c.in_err-picked_update.field-0.0
    in IfErr-same (IsCauseOfUpdate action s) c.from_residual.result e c.from_residual.ensures.1
    (pick-cause action s c.in-Some.individuals e
    (subst (λ ls. Contains ls c.in-Some.individuals) c.requires.lists there) c.in_err-picked_update.ensures.cause)

pub loop-individuals-preserved : goal.loop-individuals-preserved
loop-individuals-preserved c = record {
  individuals = map-pushed (λ (u : PickedUpdate). u.individuals) c.loop-individuals.each _ _ c.in-Some.individuals
      c.loop-individuals.yielded c.in_ok-push.ensures c.in_ok-picked_update.ensures.individuals
      c.loop-individuals.invariant.individuals;
  updates = all-pushed
      (IsPickedUpdate (task_program c.args.x.now) c.args.x.now.mode (course_action c.args.case.now.course.now)
      c.args.case.now.from.now) c.loop-individuals.each _ _ c.in_ok-push.ensures
      c.loop-individuals.invariant.updates c.in_ok-picked_update.ensures.update;
  same = cc;
}
