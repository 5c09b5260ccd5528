-- What the variables so far leave.
use Rattle.std.proofs.Common.{◌≡◌, length}
use Rattle.tv_coerce.proofs.Narrowing.{IsToldBehind}
use Rattle.tv_coerce.proofs.narrow.narrowed.Given as goal

abbrev pub invariant-loop-behind : goal.invariant-loop-behind
invariant-loop-behind l = (length l.word ≡ 64) × IsToldBehind l.trial l.left l.v.0 l.word
