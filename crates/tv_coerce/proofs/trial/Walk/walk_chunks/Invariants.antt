use Rattle.std.proofs.Common.{◌≡◌}
use Rattle.std.proofs.Common.{◌*◌}
use Rattle.tv_coerce.specs.Trying.{IsTold}
use Rattle.tv_coerce.specs.Walks.{AreTriedFor, IsBetween}
use Rattle.tv_coerce.specs.declared.trial.Outcome.TheVariants.{Possible}
use Rattle.tv_coerce.proofs.trial.Walk.walk_chunks.Given as goal

-- the individuals of the chunks so far were put for the last variable
abbrev pub invariant-loop-chunk : goal.invariant-loop-chunk
invariant-loop-chunk l =
    (l.self.evaluator ≡ l.fn.self.evaluator)
    × IsTold l.trial (AreTriedFor l.trial (IsBetween l.trial.last.0 0 (64 * l.chunk))) l.fn.self.noted l.self.noted
    Possible
