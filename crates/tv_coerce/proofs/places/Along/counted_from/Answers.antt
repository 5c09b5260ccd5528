-- One member more.
use Rattle.std.proofs.Common.{◌∙◌}
use Rattle.std.proofs.lemmas.Option.{slice_get-get_or}
use Rattle.tv_eval.specs.AssignmentForm.{assignment_of}
use Rattle.tv_coerce.specs.Counting.{members_in}
use Rattle.tv_coerce.proofs.Counts.{counted-more, counted-whole}
use Rattle.tv_coerce.proofs.Reading.{along-kept}
use Rattle.tv_coerce.proofs.places.Along.counted_from.Goals as goal

pub loop-k-preserved : goal.loop-k-preserved
loop-k-preserved c =
    let s = c.args.self.now.trial.now.structure.now
    in let can = c.requires.can c.loop-k.k _ c.loop-k-test.true
    in let next = c.counted_step-word.ensures.counted can.member can.there
    in (
      c.counted_step-word.ensures.same ∙ c.loop-k.invariant.0,
      next.long,
      λ begun so_far. counted-more s (assignment_of c.args.self.now.a.now) c.args.self.now.span.v.0
          c.args.self.now.span.chunk (members_in c.args.self.now.trial.now) c.args.steps.now
          c.loop-k.k _ can.member begun c.loop-k.word c.counted_step-word.result
          (slice_get-get_or c.args.steps.now c.loop-k.k _ c.loop-k-test.true) can.there (c.loop-k.invariant.2 begun so_far)
          next,
    )

pub returns-then-is_no-clause-counted : goal.returns-then-is_no-clause-counted
returns-then-is_no-clause-counted c = λ left last begun are so_far.
    counted-whole c.args.self.now.trial.now.structure.now (assignment_of c.args.self.now.a.now)
    c.args.self.now.span.v.0 c.args.self.now.span.chunk
    (members_in c.args.self.now.trial.now) c.args.steps.now left last are c.loop-k.k begun c.loop-k.word
    (c.loop-k.invariant.2 begun so_far)

pub returns-clause-counted : goal.returns-clause-counted
returns-clause-counted c = λ left last begun are so_far.
    counted-whole c.args.self.now.trial.now.structure.now (assignment_of c.args.self.now.a.now)
    c.args.self.now.span.v.0 c.args.self.now.span.chunk
    (members_in c.args.self.now.trial.now) c.args.steps.now left last are c.loop-k.k begun c.loop-k.word
    (c.loop-k.invariant.2 begun so_far)

pub counted_step-word-requires-clause-along : goal.counted_step-word-requires-clause-along
counted_step-word-requires-clause-along c =
    along-kept c.args.self.now c.args.evaluator.now c.loop-k.evaluator c.args.word c.loop-k.word
    c.loop-k.invariant.0 c.loop-k.invariant.1
    c.requires.along
