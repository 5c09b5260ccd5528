-- The members so far.
use Rattle.std.proofs.Common.{◌≡◌, length}
use Rattle.tv_eval.specs.AssignmentForm.{assignment_of}
use Rattle.tv_coerce_members.specs.Members.{members_of}
use Rattle.tv_coerce.specs.Steps.{CountedBy}
use Rattle.tv_coerce.proofs.places.Along.counted_alone.Given as goal

abbrev pub invariant-loop-k : goal.invariant-loop-k
invariant-loop-k l =
    (l.evaluator ≡ l.fn.evaluator)
    × (length l.word ≡ 64)
    × CountedBy l.self.trial.now.structure.now (assignment_of l.self.a.now) l.self.span.v.0 l.self.span.chunk
    (members_of l.self.trial.now.shape.now.members) l.steps l.k l.fn.word l.word
