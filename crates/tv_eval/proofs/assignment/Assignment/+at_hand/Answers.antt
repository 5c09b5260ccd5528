use Rattle.std.proofs.Common.{subst}
use Rattle.tv_quantifiers.specs.Runs.{AreWithin, under_run}
use Rattle.tv_eval.specs.CanEvaluate.{CanEvaluate}
use Rattle.tv_eval.proofs.Runs.{put-level}
use Rattle.tv_eval.proofs.assignment.Assignment.+at_hand.Goals as goal

pub returns-in-Some-clause-parts : goal.returns-in-Some-clause-parts
returns-in-Some-clause-parts t c s sizes f within can =
    let inner : AreWithin s.size c.in-Some.inner.now
    × CanEvaluate s c.with.result sizes (under_run c.in-Some.inner.now f) =
    put-level s c.args.self.now c.with.result sizes c.in-Some.level.now c.in-Some.inner.now f
    (record { places = c.with.ensures.places }) (
      subst (AreWithin s.size) c.in-Some.ensures.cases.0 within,
      subst (λ ls. CanEvaluate s c.args.self.now sizes (under_run ls f)) c.in-Some.ensures.cases.0 can,
    )
    in c.at_hand.ensures.parts s sizes f inner.0 inner.1
