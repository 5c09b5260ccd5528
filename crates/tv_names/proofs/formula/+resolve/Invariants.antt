use Rattle.std.proofs.Common.{◌+◌}
use Rattle.tv_tree.specs.Copies.{form_of}
use Rattle.tv_names.proofs.Weights.{weight}
use Rattle.tv_names.proofs.formula.+resolve.Given as goal

abbrev pub decreases-boxed : goal.decreases-boxed
decreases-boxed l = weight (form_of l.f.now) + 1

abbrev pub decreases-quantified : goal.decreases-quantified
decreases-quantified l = weight (form_of l.body.now) + 1

abbrev pub decreases-implication : goal.decreases-implication
decreases-implication l = weight (form_of l.f.now) + weight (form_of l.g.now) + 2

abbrev pub decreases-closure : goal.decreases-closure
decreases-closure l = weight (form_of l.body.now) + 2

abbrev pub decreases-resolve_formula : goal.decreases-resolve_formula
decreases-resolve_formula l = weight (form_of l.f.now)
