-- The members so far.
use Rattle.std.proofs.Common.{◌≡◌, length, List}
use Rattle.tv_kleene.specs.declared.K3.{K3}
use Rattle.tv_eval.specs.AssignmentForm.{assignment_of}
use Rattle.tv_coerce_members.specs.Members.{members_of}
use Rattle.tv_coerce.specs.Steps.{CountedBy}
use Rattle.tv_coerce.proofs.places.Along.counted_from.Given as goal

abbrev pub invariant-loop-k : goal.invariant-loop-k
invariant-loop-k l =
    (l.evaluator ≡ l.fn.evaluator)
    × (length l.word ≡ 64)
    × ((begun : List K3)
    → CountedBy l.self.trial.now.structure.now (assignment_of l.self.a.now) l.self.span.v.0 l.self.span.chunk
    (members_of l.self.trial.now.shape.now.members) l.steps l.done begun l.fn.word
    → CountedBy l.self.trial.now.structure.now (assignment_of l.self.a.now) l.self.span.v.0 l.self.span.chunk
    (members_of l.self.trial.now.shape.now.members) l.steps l.k begun l.word)
