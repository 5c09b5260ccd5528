use Rattle.std.proofs.Common.{◌+◌, ◌*◌}
use Rattle.std.specs.Prelude.{max}
use Rattle.tv_model.specs.declared.formula.Formula.{size-Formula}
use Rattle.tv_formula_text.proofs.formula.+formula.Given as goal

abbrev pub decreases-append_formula : goal.decreases-append_formula
decreases-append_formula l = 4 * size-Formula l.f.now

abbrev pub decreases-append_within : goal.decreases-append_within
decreases-append_within l = 4 * size-Formula l.f.now + 1

abbrev pub decreases-append_negation : goal.decreases-append_negation
decreases-append_negation l = 4 * size-Formula l.f.now + 2

abbrev pub decreases-append_quantified : goal.decreases-append_quantified
decreases-append_quantified l = 4 * size-Formula l.f.now + 2

abbrev pub decreases-append_both : goal.decreases-append_both
decreases-append_both l = 4 * max (size-Formula l.f.now) (size-Formula l.g.now) + 2

abbrev pub decreases-append_either : goal.decreases-append_either
decreases-append_either l = 4 * max (size-Formula l.f.now) (size-Formula l.g.now) + 3

abbrev pub decreases-append_choice : goal.decreases-append_choice
decreases-append_choice l = 4 * max (size-Formula l.test.now) (max (size-Formula l.yes.now) (size-Formula l.otherwise.now)) + 2
