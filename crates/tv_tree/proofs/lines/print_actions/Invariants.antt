use Rattle.std.proofs.Common.{◌≡◌, ◌++◌, drop, map}
use Rattle.std.specs.Prelude.{codes}
use Rattle.std.specs.List.{flat_map}
use Rattle.tv_tree.specs.Copies.{action_of}
use Rattle.tv_tree.specs.Printed.{text_of_lines, action_lines}
use Rattle.tv_tree.proofs.lines.print_actions.Given as goal

-- what is printed and what is left are all of it
abbrev pub invariant-loop-action : goal.invariant-loop-action
invariant-loop-action l = l.out.items ++ text_of_lines (flat_map action_lines (map action_of (drop l.action-index l.actions))) ≡ l.initial.out.items ++ text_of_lines (flat_map action_lines (map action_of l.actions))
