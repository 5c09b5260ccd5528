-- What was narrowed so far.
use Rattle.std.proofs.Common.{◌≡◌, length}
use Rattle.tv_coerce.specs.Counting.{AreNarrowed}
use Rattle.tv_coerce.proofs.narrow.narrow.Given as goal

abbrev pub invariant-loop-left : goal.invariant-loop-left
invariant-loop-left l = (length l.later ≡ 32) × AreNarrowed l.trial l.later
