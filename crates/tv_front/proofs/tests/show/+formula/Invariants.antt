use Rattle.std.proofs.Common.{◌+◌, ◌*◌}
use Rattle.std.specs.Prelude.{max}
use Rattle.tv_model.specs.declared.formula.Formula.{size-Formula}
use Rattle.tv_front.proofs.tests.show.+formula.Given as goal

abbrev pub decreases-put_formula : goal.decreases-put_formula
decreases-put_formula l = 2 * size-Formula l.formula.now

abbrev pub decreases-put_both : goal.decreases-put_both
decreases-put_both l = 2 * max (size-Formula l.left.now) (size-Formula l.right.now) + 1

abbrev pub decreases-put_choice : goal.decreases-put_choice
decreases-put_choice l = 2 * max (size-Formula l.test.now) (max (size-Formula l.yes.now) (size-Formula l.no.now)) + 1

abbrev pub decreases-put_negated : goal.decreases-put_negated
decreases-put_negated l = 2 * size-Formula l.body.now + 1

abbrev pub decreases-put_quantified : goal.decreases-put_quantified
decreases-put_quantified l = 2 * size-Formula l.body.now + 1

abbrev pub decreases-put_closure : goal.decreases-put_closure
decreases-put_closure l = 2 * size-Formula l.body.now + 1
