-- One member more.
use Rattle.std.proofs.Common.{◌∙◌}
use Rattle.std.proofs.Common.{subst, sym}
use Rattle.std.proofs.lemmas.Option.{slice_get-get_or}
use Rattle.std.specs.Prelude.{All}
use Rattle.tv_eval.specs.AssignmentForm.{assignment_of}
use Rattle.tv_eval.specs.Bound.{bound_room}
use Rattle.tv_coerce.specs.CountedWords.{CanReadAlong}
use Rattle.tv_coerce.specs.Counting.{members_in}
use Rattle.tv_coerce.proofs.Counts.{counted-more, counted-whole}
use Rattle.tv_coerce.proofs.Reading.{along-kept}
use Rattle.tv_coerce.proofs.places.Along.counted_alone.Goals as goal

pub loop-k-preserved : goal.loop-k-preserved
loop-k-preserved c =
    let can = c.requires.can c.loop-k.k _ c.loop-k-test.true
    in let next = c.in-Some.ensures (assignment_of c.args.self.now.a.now) can.member can.there
    in (
      c.loop-k.invariant.0,
      next.long,
      counted-more c.args.self.now.trial.now.structure.now (assignment_of c.args.self.now.a.now)
          c.args.self.now.span.v.0 c.args.self.now.span.chunk (members_in c.args.self.now.trial.now)
          c.args.steps.now c.loop-k.k _ can.member c.args.word c.loop-k.word c.in-Some.more
          (slice_get-get_or c.args.steps.now c.loop-k.k _ c.loop-k-test.true) can.there c.loop-k.invariant.2 next,
    )

pub counted_from-requires-clause-can : goal.counted_from-requires-clause-can
counted_from-requires-clause-can c =
    subst (λ e. All (CanReadAlong c.args.self.now (bound_room e)) c.args.steps.now) (sym c.loop-k.invariant.0)
    c.requires.can

pub returns-in-None-clause-same : goal.returns-in-None-clause-same
returns-in-None-clause-same c =
    c.counted_from.ensures.same ∙ c.loop-k.invariant.0

pub returns-then-is_no-clause-counted : goal.returns-then-is_no-clause-counted
returns-then-is_no-clause-counted c = λ left last are.
    counted-whole c.args.self.now.trial.now.structure.now (assignment_of c.args.self.now.a.now)
    c.args.self.now.span.v.0 c.args.self.now.span.chunk
    (members_in c.args.self.now.trial.now) c.args.steps.now left last are c.loop-k.k c.args.word c.loop-k.word
    c.loop-k.invariant.2

pub returns-in-None-clause-counted : goal.returns-in-None-clause-counted
returns-in-None-clause-counted c = λ left last are.
    c.counted_from.ensures.counted left last c.args.word are c.loop-k.invariant.2

pub returns-clause-counted : goal.returns-clause-counted
returns-clause-counted c = λ left last are.
    counted-whole c.args.self.now.trial.now.structure.now (assignment_of c.args.self.now.a.now)
    c.args.self.now.span.v.0 c.args.self.now.span.chunk
    (members_in c.args.self.now.trial.now) c.args.steps.now left last are c.loop-k.k c.args.word c.loop-k.word
    c.loop-k.invariant.2

pub counted_from-requires-clause-along : goal.counted_from-requires-clause-along
counted_from-requires-clause-along c =
    along-kept c.args.self.now c.args.evaluator.now c.loop-k.evaluator c.args.word c.loop-k.word
    c.loop-k.invariant.0 c.loop-k.invariant.1
    c.requires.along
