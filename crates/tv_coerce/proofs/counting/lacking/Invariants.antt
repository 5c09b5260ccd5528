-- The members so far.
use Rattle.std.proofs.Common.{◌≡◌}
use Rattle.tv_eval.specs.AssignmentForm.{assignment_of}
use Rattle.tv_coerce_members.specs.Members.{members_of}
use Rattle.tv_coerce.proofs.Lacks.{IsLackingBy}
use Rattle.tv_coerce.proofs.counting.lacking.Given as goal

abbrev pub invariant-loop-number : goal.invariant-loop-number
invariant-loop-number l =
    (l.evaluator ≡ l.fn.evaluator)
    × IsLackingBy l.trial.structure.now (assignment_of l.a) (members_of l.trial.shape.now.members) l.number l.found
