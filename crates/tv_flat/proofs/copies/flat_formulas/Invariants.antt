use Rattle.std.proofs.Common.{◌≡◌, ◌++◌, drop, map}
use Rattle.tv_tree.specs.Copies.{form_of}
use Rattle.tv_flat.specs.Replaced.{flat_form}
use Rattle.tv_flat.specs.Views.{binding_of}
use Rattle.tv_flat.proofs.copies.flat_formulas.Given as goal

-- what is copied and the copies of what is left are the whole copy
abbrev pub invariant-loop-formula : goal.invariant-loop-formula
invariant-loop-formula l = map form_of l.copy.items ++ map (flat_form (binding_of l.binding)) (map form_of (drop l.formula-index l.formulas)) ≡ map (flat_form (binding_of l.binding)) (map form_of l.formulas)
