-- The individuals so far.
use Rattle.std.proofs.Common.{◌≡◌, ◌≤◌, ◌-◌, length, Some, slice_get}
use Rattle.tv_coerce_members.specs.Members.{MemberForm, members_of}
use Rattle.tv_eval.specs.AssignmentForm.{assignment_of}
use Rattle.tv_coerce.proofs.Reading.{ReadUpTo}
use Rattle.tv_coerce.proofs.places.Along.read_each.Given as goal

abbrev pub invariant-loop-i : goal.invariant-loop-i
invariant-loop-i l =
    (l.evaluator ≡ l.fn.evaluator)
    × (length l.values ≡ 64)
    × (l.from ≤ 64)
    × ((m : MemberForm) → slice_get (members_of l.self.trial.now.shape.now.members) l.step.member ≡ Some m
    → ReadUpTo l.self.trial.now.structure.now (assignment_of l.self.a.now) l.self.span.v.0 l.self.span.chunk m.form
    l.word l.values l.from)

abbrev pub decreases-loop-i : goal.decreases-loop-i
decreases-loop-i l = 64 - l.from
