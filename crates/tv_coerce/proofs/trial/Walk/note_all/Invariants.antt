use Rattle.std.proofs.Common.{◌≡◌}
use Rattle.std.proofs.Common.{◌≤◌, ◌+◌, ◌-◌, ◌*◌, [], ◌∷◌}
use Rattle.tv_eval.specs.AssignmentForm.{assignment_of}
use Rattle.tv_coerce.specs.Counting.{variables_in}
use Rattle.tv_coerce.specs.Trying.{DifferOnlyAt, GoesOn, IsTold}
use Rattle.tv_coerce.specs.Walks.{AreTriedFor, IsBetween}
use Rattle.tv_coerce.specs.declared.trial.Outcome.TheVariants.{Possible}
use Rattle.tv_coerce.proofs.trial.Walk.note_all.Given as goal

-- the individuals so far were put for the last variable
abbrev pub invariant-loop-i : goal.invariant-loop-i
invariant-loop-i l =
    (l.self.evaluator ≡ l.fn.self.evaluator)
    × DifferOnlyAt (l.trial.last.0 ∷ []) l.fn.self.a l.self.a
    × (l.from ≤ 64)
    × IsTold l.trial
    (AreTriedFor l.trial (λ b. GoesOn (variables_in l.trial) (l.trial.last.0 ∷ []) (assignment_of l.fn.self.a) b
    × IsBetween l.trial.last.0 (64 * l.trial.chunk) (64 * l.trial.chunk + l.from) b))
    l.fn.self.noted l.self.noted Possible

abbrev pub decreases-loop-i : goal.decreases-loop-i
decreases-loop-i l = 64 - l.from
