use Rattle.std.proofs.Common.{ℕ, ◌∷◌, ◌+◌, ◌<◌, get_or, take, subst, arith}
use Rattle.std.proofs.lemmas.List.{take_all, take_more}
use Rattle.tv_blur.specs.Classes.{IsMask}
use Rattle.tv_blur.proofs.JoinLaws.{behind}
use Rattle.tv_blur.proofs.MaskLaws.{mask_more, mask_one}
use Rattle.tv_blur.proofs.class.mask_of.Goals as goal

pub loop-i-init : goal.loop-i-init
loop-i-init c = rw (c.set.ensures, c.of-mask.ensures) (mask_one c.args.first (c.requires 0 0 (omega arith)))

pub set-requires-in-loop-i : goal.set-requires-in-loop-i
set-requires-in-loop-i c =
    let lt : get_or c.args.others.now c.loop-i.i 0 < 256
    = subst (λ x. x < 256) (behind c.args.first c.args.others.now c.loop-i.i) (c.requires (c.loop-i.i + 1) 0 (omega arith))
    in omega (arith, lt, c.loop-i.invariant.long)

pub loop-i-preserved : goal.loop-i-preserved
loop-i-preserved c =
    let u : ℕ = get_or c.args.others.now c.loop-i.i 0
    in let lt : u < 256
    = subst (λ x. x < 256) (behind c.args.first c.args.others.now c.loop-i.i) (c.requires (c.loop-i.i + 1) 0 (omega arith))
    in rw (c.set-in-loop-i.ensures, take_more c.args.others.now c.loop-i.i 0 c.loop-i-test.true)
    (mask_more (c.args.first ∷ take c.loop-i.i c.args.others.now) c.loop-i.mask u c.loop-i.invariant lt)

pub returns : goal.returns
returns c =
    subst (λ us. IsMask (c.args.first ∷ us) c.loop-i.mask) (take_all c.loop-i.i c.args.others.now c.loop-i-test.false)
    c.loop-i.invariant
