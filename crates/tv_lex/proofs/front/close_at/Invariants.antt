use Rattle.std.proofs.Common.{◌≡◌, drop}
use Rattle.tv_lex.specs.Pieces.{close_at}
use Rattle.tv_lex.proofs.Closes.{shifted}
use Rattle.tv_lex.proofs.front.close_at.Given as goal

abbrev pub invariant-loop-i : goal.invariant-loop-i
invariant-loop-i l = shifted l.i (close_at (drop l.i l.bytes)) ≡ close_at l.bytes
