use Rattle.std.proofs.Common.{◌≡◌, ◌++◌, drop, map}
use Rattle.std.specs.Prelude.{codes}
use Rattle.std.specs.List.{flat_map}
use Rattle.tv_tree.specs.Copies.{form_of}
use Rattle.tv_tree.specs.Printed.{spaced, more_tokens, formula_tokens}
use Rattle.tv_tree.proofs.lines.print_more_formulas.Given as goal

-- what is printed and what is left are all of it
abbrev pub invariant-loop-formula : goal.invariant-loop-formula
invariant-loop-formula l = l.out.items ++ spaced (more_tokens (codes ",") formula_tokens (map form_of (drop l.formula-index l.formulas))) ≡ l.initial.out.items ++ spaced (more_tokens (codes ",") formula_tokens (map form_of l.formulas))
