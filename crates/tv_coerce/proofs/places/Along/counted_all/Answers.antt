use Rattle.tv_eval.specs.AssignmentForm.{assignment_of}
use Rattle.tv_coerce.specs.Counting.{members_in}
use Rattle.tv_coerce.proofs.Counts.{counted-begins}
use Rattle.tv_coerce.proofs.places.Along.counted_all.Goals as goal

pub returns-clause-counted : goal.returns-clause-counted
returns-clause-counted c = λ left last are.
    c.counted_from.ensures.counted left last c.args.word are
    (counted-begins c.args.self.now.trial.now.structure.now (assignment_of c.args.self.now.a.now)
    c.args.self.now.span.v.0 c.args.self.now.span.chunk (members_in c.args.self.now.trial.now)
    c.args.steps.now c.args.word c.requires.along.long)
