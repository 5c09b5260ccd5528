use Rattle.std.proofs.Common.{◌≡◌, ◌++◌, drop, map}
use Rattle.tv_tree.specs.Printed.{spaced, prop_token}
use Rattle.tv_tree.proofs.lines.print_props.Given as goal

-- the words so far and those that are left are all of them
abbrev pub invariant-loop-prop : goal.invariant-loop-prop
invariant-loop-prop l = l.out.items ++ spaced (map prop_token (drop l.prop-index l.props)) ≡ l.initial.out.items ++ spaced (map prop_token l.props)
