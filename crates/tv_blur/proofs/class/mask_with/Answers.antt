use Rattle.std.proofs.Common.{ℕ, List, set, subst, sym}
use Rattle.std.specs.Prelude.{IfSome}
use Rattle.tv_kleene.specs.declared.K3.TheVariants.{Yes}
use Rattle.tv_blur.specs.Classes.{IsMask}
use Rattle.tv_blur.proofs.MaskLaws.{mask_more}
use Rattle.tv_blur.proofs.class.mask_with.Goals as goal

pub returns-in-Some : goal.returns-in-Some
returns-in-Some c =
    let before : List ℕ = c.requires.known.0
    in let is_mask : IsMask before c.in-Some.mask
    = subst (λ o. IfSome o (IsMask before)) c.in-Some.is c.requires.known.2
    in rw c.set.ensures
    (subst (λ members. IsMask members (set c.in-Some.mask c.args.u Yes)) (sym c.requires.known.1)
    (mask_more before c.in-Some.mask c.args.u is_mask c.requires.last))
