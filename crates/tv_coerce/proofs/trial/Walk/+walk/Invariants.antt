use Rattle.std.proofs.Common.{◌≡◌}
use Rattle.std.proofs.Common.{◌≤◌, ◌+◌, ◌-◌, ◌*◌, [], ◌∷◌, ◌++◌, length}
use Rattle.tv_eval.specs.AssignmentForm.{assignment_of}
use Rattle.tv_coerce_members.specs.Members.{numbers_of}
use Rattle.tv_coerce.specs.Trying.{DifferOnlyAt, IsTold}
use Rattle.tv_coerce.specs.Walks.{AreTriedFor, GoesOnIn, IsBetween}
use Rattle.tv_coerce.specs.declared.trial.Outcome.TheVariants.{Possible}
use Rattle.tv_coerce.proofs.trial.Walk.+walk.Given as goal

abbrev pub decreases-walk : goal.decreases-walk
decreases-walk l = 2 * length l.rest.now

abbrev pub decreases-walk_chunk : goal.decreases-walk_chunk
decreases-walk_chunk l = 2 * length l.rest.now + 1

-- the individuals of the chunks so far were put for the variable
abbrev pub invariant-walk-loop-chunk : goal.invariant-walk-loop-chunk
invariant-walk-loop-chunk l =
    (l.self.evaluator ≡ l.fn.self.evaluator)
    × DifferOnlyAt (l.v.0 ∷ numbers_of l.behind ++ l.trial.last.0 ∷ []) l.fn.self.a l.self.a
    × IsTold l.trial
    (AreTriedFor l.trial (λ b. GoesOnIn l.trial (l.v.0 ∷ numbers_of l.behind ++ l.trial.last.0 ∷ []) (assignment_of
    l.fn.self.a) b
    × IsBetween l.v.0 0 (64 * l.chunk) b))
    l.fn.self.noted l.self.noted Possible

-- and the individuals so far of a chunk
abbrev pub invariant-walk_chunk-loop-i : goal.invariant-walk_chunk-loop-i
invariant-walk_chunk-loop-i l =
    (l.self.evaluator ≡ l.fn.self.evaluator)
    × DifferOnlyAt (l.span.v.0 ∷ numbers_of l.rest ++ l.trial.last.0 ∷ []) l.fn.self.a l.self.a
    × (l.from ≤ 64)
    × IsTold l.trial
    (AreTriedFor l.trial (λ b. GoesOnIn l.trial (l.span.v.0 ∷ numbers_of l.rest ++ l.trial.last.0 ∷ []) (assignment_of
    l.fn.self.a) b
    × IsBetween l.span.v.0 (64 * l.span.chunk) (64 * l.span.chunk + l.from) b))
    l.fn.self.noted l.self.noted Possible

abbrev pub decreases-walk_chunk-loop-i : goal.decreases-walk_chunk-loop-i
decreases-walk_chunk-loop-i l = 64 - l.from
