use Rattle.std.proofs.Common.{◌∙◌, [], ◌∷◌, refl, arith}
use Rattle.tv_structure_form.specs.StructureForm.{value_at}
use Rattle.tv_quantifiers.proofs.Filled.{filled-none, filled-next, filled-all}
use Rattle.tv_eval.proofs.leaf_words.diagonal.Goals as goal

pub loop-i-init : goal.loop-i-init
loop-i-init c =
    filled-none c.args.chunk (λ u. value_at c.args.s.now c.args.pred.0 (u ∷ u ∷ [])) c.of-values.result
    c.of-values.ensures

pub loop-i-preserved : goal.loop-i-preserved
loop-i-preserved c =
    filled-next c.args.chunk c.loop-i.i (λ u. value_at c.args.s.now c.args.pred.0 (u ∷ u ∷ [])) c.loop-i.values
    c.with-values.result c.get.result c.loop-i.invariant (omega (arith, c.places-i-end.ensures.small)) c.with-values.ensures
    c.get.ensures

pub returns : goal.returns
returns c =
    filled-all c.args.s.now.size c.args.chunk c.loop-i.i c.places-i-end.result
    (λ u. value_at c.args.s.now c.args.pred.0 (u ∷ u ∷ [])) c.loop-i.values c.loop-i.invariant
    (c.places-i-end.ensures.value ∙ (rw c.size.ensures.size refl)) (omega arith)
