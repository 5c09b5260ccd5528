use Rattle.std.proofs.Common.{◌∙◌, [], ◌∷◌, ◌++◌, ap, sym}
use Rattle.std.proofs.lemmas.List.{take_all}
use Rattle.tv_step.proofs.Adding.{take-next}
use Rattle.tv_step.proofs.focus.copies.Goals as goal

pub loop-s-preserved : goal.loop-s-preserved
loop-s-preserved c =
    c.in_ok-push.ensures
    ∙ ap (λ t. c.loop-s.out ++ t ∷ []) c.in_ok-copy.ensures.value
    ∙ ap (λ ss. ss ++ c.s-item.result ∷ []) c.loop-s.invariant
    ∙ sym (take-next c.args.structures.now c.loop-s.s-index c.s-item.result c.loop-s-test.true c.s-item.is)

pub returns : goal.returns
returns c = c.loop-s.invariant ∙ take_all c.loop-s.s-index c.args.structures.now c.loop-s-test.false
