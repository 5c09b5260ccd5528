use Rattle.std.proofs.Common.{◌≡◌, ◌*◌}
use Rattle.tv_row.specs.Bits.{greatest_in}
use Rattle.tv_row.specs.Places.{row_of}
use Rattle.tv_row.proofs.slices.greatest.Given as goal

abbrev pub invariant-loop-w : goal.invariant-loop-w
invariant-loop-w l = l.k ≡ greatest_in (row_of l.words (64 * l.w) l.start)
