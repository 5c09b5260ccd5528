use Rattle.std.proofs.Common.{◌≡◌, ◌++◌, drop, map}
use Rattle.std.specs.Prelude.{codes}
use Rattle.std.specs.List.{flat_map}
use Rattle.tv_tree.specs.Copies.{part_of}
use Rattle.tv_tree.specs.Printed.{text_of_lines, part_lines}
use Rattle.tv_tree.proofs.lines.print_parts.Given as goal

-- what is printed and what is left are all of it
abbrev pub invariant-loop-part : goal.invariant-loop-part
invariant-loop-part l = l.out.items ++ text_of_lines (flat_map part_lines (map part_of (drop l.part-index l.parts))) ≡ l.initial.out.items ++ text_of_lines (flat_map part_lines (map part_of l.parts))
