use Rattle.std.proofs.Common.{ℕ, ◌≡◌, ◌∙◌, ◌<◌, ◌∷◌, List, ap, arith, get_or, length, subst, sym, All}
use Rattle.std.specs.Prelude.{IfSome}
use Rattle.tv_kleene.specs.declared.K3.TheVariants.{No}
use Rattle.tv_blur.specs.Classes.{IsAmongMembers, IsMask}
use Rattle.tv_blur.specs.Merged.{IsJoin}
use Rattle.tv_blur.proofs.MaskLaws.{joined_masked}
use Rattle.tv_blur.proofs.class.Class.joined.Goals as goal

pub joined_each-requires : goal.joined_each-requires
joined_each-requires c =
    let Within : List ℕ → Type 0 = λ members. All (λ u. u < length c.args.row.now) members
    in subst Within (sym (ap (λ us. c.self.inside.first ∷ us) c.as_slice.ensures ∙ c.self.view_is)) c.requires

pub returns-in-None : goal.returns-in-None
returns-in-None c =
    let Joins : List ℕ → Type 0 = λ members. IsJoin (IsAmongMembers (λ u j. get_or c.args.row.now u No ≡ j) members) c.joined_each.result
    in subst Joins (ap (λ us. c.self.inside.first ∷ us) c.as_slice.ensures ∙ c.self.view_is) c.joined_each.ensures

pub returns-in-Some : goal.returns-in-Some
returns-in-Some c =
    rw (
      c.join.ensures.value,
      c.least-least.ensures,
      c.or.ensures,
      c.not.ensures,
      c.greatest-greatest.ensures,
      c.and.ensures,
      c.first-flags.ensures,
      c.size.ensures.size,
    )
    (joined_masked c.args.self.now c.in-Some.mask c.args.row.now
    (subst (λ members. IsMask members c.in-Some.mask) c.self.view_is
    (subst (λ o. IfSome o (IsMask (c.self.inside.first ∷ c.self.inside.others.items))) c.in-Some.is c.self.invariant.mask_of))
    c.size.ensures.bound
    (subst (λ members. 0 < length members) c.self.view_is (omega arith)) c.requires)
