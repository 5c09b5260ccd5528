use Rattle.std.proofs.Common.{◌+◌, ◌*◌}
use Rattle.std.specs.Prelude.{max}
use Rattle.tv_tree.specs.declared.trees.FormulaTree.{size-FormulaTree}
use Rattle.tv_tree.proofs.print.+formula.Given as goal

abbrev pub decreases-print_formula : goal.decreases-print_formula
decreases-print_formula l = 2 * size-FormulaTree l.formula.now

abbrev pub decreases-print_between : goal.decreases-print_between
decreases-print_between l = 2 * max (size-FormulaTree l.left.now) (size-FormulaTree l.right.now) + 1

abbrev pub decreases-print_conditional : goal.decreases-print_conditional
decreases-print_conditional l = 2 * max (size-FormulaTree l.test.now) (max (size-FormulaTree l.yes.now) (size-FormulaTree l.no.now)) + 1

abbrev pub decreases-print_quantified : goal.decreases-print_quantified
decreases-print_quantified l = 2 * size-FormulaTree l.body.now + 1

abbrev pub decreases-print_in_parentheses : goal.decreases-print_in_parentheses
decreases-print_in_parentheses l = 2 * size-FormulaTree l.inner.now + 1

abbrev pub decreases-print_negation : goal.decreases-print_negation
decreases-print_negation l = 2 * size-FormulaTree l.inner.now + 1
