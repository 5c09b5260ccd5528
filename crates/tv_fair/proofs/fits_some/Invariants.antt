-- None of the candidates so far fits.
use Rattle.std.proofs.Common.{ℕ, ◌<◌, get_or}
use Rattle.tv_model.specs.Step.{with_new}
use Rattle.tv_concrete.specs.Lists.{heap_of}
use Rattle.tv_fair.specs.Candidates.{IsFairOver}
use Rattle.tv_fair.proofs.fits_some.Given as goal

abbrev pub invariant-loop-u : goal.invariant-loop-u
invariant-loop-u l =
    (k : ℕ) → k < l.u-index
    → ¬ IsFairOver l.acting l.ends (with_new (heap_of l.ends.old.now) (get_or l.candidates k 0))
