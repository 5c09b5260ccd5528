use Rattle.std.proofs.Common.{◌≡◌, ◌+◌, ◌≤◌, min, map, drop}
use Rattle.std.specs.Prelude.{sum_by}
use Rattle.tv_tree.specs.Copies.{form_of}
use Rattle.tv_flat.specs.FlatForm.{nodes}
use Rattle.tv_flat.proofs.nodes.formulas_nodes.Given as goal

-- the nodes so far and those of the formulas that are left are all of them
abbrev pub invariant-loop-formula : goal.invariant-loop-formula
invariant-loop-formula l = (l.sum ≤ 18446744073709551615) × (min (l.sum + sum_by nodes (map form_of (drop l.formula-index l.formulas))) 18446744073709551615 ≡ min (sum_by nodes (map form_of l.formulas)) 18446744073709551615)
