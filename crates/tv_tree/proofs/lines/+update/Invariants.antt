use Rattle.std.proofs.Common.{◌≡◌, ◌++◌, drop, map}
use Rattle.std.specs.Prelude.{codes}
use Rattle.std.specs.List.{flat_map}
use Rattle.tv_tree.specs.Copies.{update_of, updates_of, nests}
use Rattle.tv_tree.specs.Printed.{text_of_lines, nests_lines, update_tokens}
use Rattle.tv_tree.proofs.lines.+update.Given as goal

-- what is printed and what is left are all of it
abbrev pub invariant-print_updates-loop-update : goal.invariant-print_updates-loop-update
invariant-print_updates-loop-update l = l.out.items ++ text_of_lines (nests_lines update_tokens (nests (map update_of (drop l.update-index l.update-items)))) ≡ l.initial.out.items ++ text_of_lines (nests_lines update_tokens (updates_of l.updates))
