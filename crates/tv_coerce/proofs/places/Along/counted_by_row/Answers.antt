-- The first member, and then the others.
use Rattle.std.proofs.Common.{refl}
use Rattle.std.proofs.Common.{◌<◌, length, arith}
use Rattle.std.proofs.lemmas.Option.{slice_get-get_or}
use Rattle.tv_eval.specs.AssignmentForm.{assignment_of}
use Rattle.tv_coerce.specs.Counting.{members_in}
use Rattle.tv_coerce.proofs.Counts.{counted-begins, counted-more, counted-whole}
use Rattle.tv_coerce.proofs.Reading.{along-kept}
use Rattle.tv_coerce.proofs.places.Along.counted_by_row.Goals as goal

pub returns-then-steps-eq1-clause-counted : goal.returns-then-steps-eq1-clause-counted
returns-then-steps-eq1-clause-counted c = λ left last are.
    let s = c.args.self.now.trial.now.structure.now
    in let a = assignment_of c.args.self.now.a.now
    in let ms = members_in c.args.self.now.trial.now
    in let some : 0 < length c.args.steps.now = omega (arith, c.if-steps-eq0.false)
    in let can = c.requires.can 0 _ some
    in counted-whole s a c.args.self.now.span.v.0 c.args.self.now.span.chunk ms c.args.steps.now left last are 1
    c.args.word c.in-Some.more
    (counted-more s a c.args.self.now.span.v.0 c.args.self.now.span.chunk ms c.args.steps.now 0 _ can.member
    c.args.word c.args.word c.in-Some.more
    (slice_get-get_or c.args.steps.now 0 _ some) can.there
    (counted-begins s a c.args.self.now.span.v.0 c.args.self.now.span.chunk ms c.args.steps.now c.args.word
    c.requires.along.long)
    (c.in-Some.ensures can.member can.there))

pub counted_from-requires-in-Some-clause-along : goal.counted_from-requires-in-Some-clause-along
counted_from-requires-in-Some-clause-along c =
    let some : 0 < length c.args.steps.now = omega (arith, c.if-steps-eq0.false)
    in let can = c.requires.can 0 _ some
    in along-kept c.args.self.now c.args.evaluator.now c.args.evaluator.now c.args.word c.in-Some.more refl
    (c.in-Some.ensures can.member can.there).long c.requires.along

pub returns-in-None-clause-counted : goal.returns-in-None-clause-counted
returns-in-None-clause-counted c = λ left last are.
    c.counted_from.ensures.counted left last c.args.word are
    (counted-begins c.args.self.now.trial.now.structure.now (assignment_of c.args.self.now.a.now)
    c.args.self.now.span.v.0 c.args.self.now.span.chunk (members_in c.args.self.now.trial.now)
    c.args.steps.now c.args.word c.requires.along.long)

pub returns-else-is_no-clause-counted : goal.returns-else-is_no-clause-counted
returns-else-is_no-clause-counted c = λ left last are.
    let s = c.args.self.now.trial.now.structure.now
    in let a = assignment_of c.args.self.now.a.now
    in let ms = members_in c.args.self.now.trial.now
    in let some : 0 < length c.args.steps.now = omega (arith, c.if-steps-eq0.false)
    in let can = c.requires.can 0 _ some
    in c.counted_from-in-Some.ensures.counted left last c.args.word are
    (counted-more s a c.args.self.now.span.v.0 c.args.self.now.span.chunk ms c.args.steps.now 0 _ can.member
    c.args.word c.args.word c.in-Some.more
    (slice_get-get_or c.args.steps.now 0 _ some) can.there
    (counted-begins s a c.args.self.now.span.v.0 c.args.self.now.span.chunk ms c.args.steps.now c.args.word
    c.requires.along.long)
    (c.in-Some.ensures can.member can.there))
