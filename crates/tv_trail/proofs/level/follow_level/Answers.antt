use Rattle.std.proofs.Common.{arith, subst}
use Rattle.tv_trail_laws.specs.Met.{Found, IsFromBelow}
use Rattle.tv_work.specs.Task.{task_of}
use Rattle.tv_trail.specs.Asked.{goal_of}
use Rattle.tv_trail.specs.Searched.{IsFrom, AnswersHere}
use Rattle.tv_trail.proofs.Following.{passed-next}
use Rattle.tv_trail.proofs.Kept.{longer-on, meets-on, meets-weaker}
use Rattle.tv_trail.proofs.level.follow_level.Goals as goal

pub follow-requires-clause-place : goal.follow-requires-clause-place
follow-requires-clause-place c =
    omega (
      arith,
      c.loop-place-test.true,
      c.requires.to,
      longer-on (IsFromBelow c.args.to) c.args.search.now c.loop-place.search c.loop-place.invariant.meets,
    )

pub loop-place-preserved : goal.loop-place-preserved
loop-place-preserved c =
    let t = task_of c.args.x.now.task
    in let place = c.loop-place.place
    in let middle = c.loop-place.search
    in let new = c.follow.new.search
    in let below : (f : Found) → IsFrom place f → IsFromBelow c.args.to f
    = λ f from. (place, from.0, c.loop-place-test.true, from.1)
    in record {
      kept = c.in_ok-follow.ensures.kept;
      meets = meets-on (IsFromBelow c.args.to) c.args.search.now middle new c.loop-place.invariant.meets
          (meets-weaker (IsFrom place) (IsFromBelow c.args.to) below middle new c.in_ok-follow.ensures.meets);
      passed = passed-next t (goal_of c.args.x.now) (IsFrom place) middle new c.in_ok-follow.ensures.meets
          c.args.from place c.loop-place.invariant.passed
          (subst (λ b. AnswersHere t (goal_of c.args.x.now) place new.found b) c.if-branch.false
          c.in_ok-follow.ensures.answer);
      same = cc;
    }

pub returns-then-branch-clause-meets : goal.returns-then-branch-clause-meets
returns-then-branch-clause-meets c =
    let place = c.loop-place.place
    in let middle = c.loop-place.search
    in let new = c.follow.new.search
    in let below : (f : Found) → IsFrom place f → IsFromBelow c.args.to f
    = λ f from. (place, from.0, c.loop-place-test.true, from.1)
    in meets-on (IsFromBelow c.args.to) c.args.search.now middle new c.loop-place.invariant.meets
    (meets-weaker (IsFrom place) (IsFromBelow c.args.to) below middle new c.in_ok-follow.ensures.meets)

pub returns-clause-answer : goal.returns-clause-answer
returns-clause-answer c = λ place past less.
    c.loop-place.invariant.passed place past (omega (arith, less, c.loop-place-test.false))
