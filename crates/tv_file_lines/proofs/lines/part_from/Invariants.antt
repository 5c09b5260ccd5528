use Rattle.std.proofs.Common.{◌≡◌, drop}
use Rattle.std.specs.Prelude.{find}
use Rattle.tv_file_lines.specs.FileLines.{is_in}
use Rattle.tv_file_lines.proofs.lines.part_from.Given as goal

abbrev pub invariant-loop-number : goal.invariant-loop-number
invariant-loop-number l = find (is_in l.place) (drop l.number l.parts) ≡ find (is_in l.place) (drop l.first l.parts)
