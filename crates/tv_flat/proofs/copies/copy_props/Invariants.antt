use Rattle.std.proofs.Common.{◌≡◌, ◌++◌, drop}
use Rattle.tv_flat.proofs.copies.copy_props.Given as goal

-- what is copied and the copies of what is left are the whole copy
abbrev pub invariant-loop-prop : goal.invariant-loop-prop
invariant-loop-prop l = l.copy.items ++ drop l.prop-index l.props ≡ l.props
