use Rattle.std.proofs.Common.{◌∙◌, sym, ◌+◌, lit≤, map}
use Rattle.std.specs.Prelude.{sum_by}
use Rattle.tv_tree.specs.Copies.{form_of}
use Rattle.tv_flat.specs.FlatForm.{nodes}
use Rattle.tv_flat.proofs.NodeLaws.{sum_more, sum_done, capped_small, capped_start}
use Rattle.tv_flat.proofs.nodes.formulas_nodes.Goals as goal

pub loop-formula-init : goal.loop-formula-init
loop-formula-init c = (lit≤ tt, capped_start (sum_by nodes (map form_of c.args.formulas.now)) 18446744073709551615)

pub loop-formula-preserved : goal.loop-formula-preserved
loop-formula-preserved c = (
  rw c.plus-sum.ensures (capped_small (c.loop-formula.sum + c.formula_nodes.result) 18446744073709551615),
  rw (c.plus-sum.ensures, c.formula_nodes.ensures) (sum_more 18446744073709551615 c.loop-formula.sum c.args.formulas.now c.loop-formula.formula-index c.formula-item.result c.loop-formula-test.true c.formula-item.is ∙ c.loop-formula.invariant.1),
)

pub returns : goal.returns
returns c =
    sym (sum_done 18446744073709551615 c.loop-formula.sum c.args.formulas.now c.loop-formula.formula-index c.loop-formula-test.false c.loop-formula.invariant.0) ∙ c.loop-formula.invariant.1
