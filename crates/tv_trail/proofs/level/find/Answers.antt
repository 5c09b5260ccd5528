use Rattle.std.proofs.Common.{◌+◌, arith, subst}
use Rattle.tv_trail_laws.specs.Met.{IsFromBelow}
use Rattle.tv_trail_laws.proofs.Levels.{level-passed}
use Rattle.tv_work.specs.Task.{task_of}
use Rattle.tv_trail.specs.Asked.{goal_of}
use Rattle.tv_trail.specs.Searched.{AnswersLevel}
use Rattle.tv_trail.proofs.Kept.{longer-on}
use Rattle.tv_trail.proofs.Levelling.{followed-level, goal-nearest}
use Rattle.tv_trail.proofs.level.find.Goals as goal

pub loop-from-init : goal.loop-from-init
loop-from-init c = record {
  kept = c.requires.kept;
  within = omega arith;
  level = (0, c.requires.level);
  same = cc;
}

pub loop-from-preserved : goal.loop-from-preserved
loop-from-preserved c =
    let t = task_of c.args.x.now.task
    in let G = goal_of c.args.x.now
    in let to = c.len-to.result
    in let from = c.loop-from.from
    in let old = c.loop-from.search
    in let new = c.follow_level.new.search
    in let meets = c.in_ok-place.ensures.meets
    in let level = c.loop-from.invariant.level
    in record {
      kept = c.in_ok-place.ensures.kept;
      within = omega (arith, c.len-to.ensures, longer-on (IsFromBelow to) old new meets);
      level = (
        level.0 + 1,
        followed-level t G old new to from level.0 c.len-to.ensures level.1 meets
            (subst (AnswersLevel t G from to new.found) c.in_default.is c.in_ok-place.ensures.answer),
      );
      same = cc;
    }

pub loop-from-smaller : goal.loop-from-smaller
loop-from-smaller c =
    omega (arith, c.loop-from.invariant.kept.within, c.len-to.ensures, c.len.ensures, c.loop-from-test.true)

pub returns-in-Some-clause-answer : goal.returns-in-Some-clause-answer
returns-in-Some-clause-answer c =
    let t = task_of c.args.x.now.task
    in let G = goal_of c.args.x.now
    in let to = c.len-to.result
    in let from = c.loop-from.from
    in let new = c.follow_level.new.search
    in let level = c.loop-from.invariant.level
    in goal-nearest t G c.loop-from.search new to from level.0 c.len-to.ensures level.1
    c.in_ok-place.ensures.meets c.in-Some.place
    (subst (AnswersLevel t G from to new.found) c.in-Some.is c.in_ok-place.ensures.answer)

pub returns-clause-answer : goal.returns-clause-answer
returns-clause-answer c =
    let level = c.loop-from.invariant.level
    in level-passed (task_of c.args.x.now.task) (goal_of c.args.x.now) c.loop-from.search.found c.loop-from.from level.0
    level.1 (omega (arith, c.len.ensures, c.loop-from-test.false))
