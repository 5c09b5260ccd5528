use Rattle.std.proofs.Common.{◌∷◌, ◌<◌, ◌∙◌, List, ℕ, ap, subst}
use Rattle.std.specs.Prelude.{IfSome}
use Rattle.std.proofs.lemmas.List.Elements.{All-push}
use Rattle.tv_blur.specs.Classes.{IsMask}
use Rattle.tv_blur.proofs.class.Class.add.Goals as goal

pub mask_with-self-inside-requires-clause-small : goal.mask_with-self-inside-requires-clause-small
mask_with-self-inside-requires-clause-small c =
    let members : List ℕ = c.self.inside.first ∷ c.self.inside.others.items
    in rw (c.as_slice.ensures, c.in_ok-push.ensures.ok)
    (All-push (λ w. w < 256) members c.args.u c.self.invariant.small c.requires)

pub mask_with-self-inside-requires-clause-known : goal.mask_with-self-inside-requires-clause-known
mask_with-self-inside-requires-clause-known c = (
  c.self.inside.first ∷ c.self.inside.others.items,
  ap (λ us. c.self.inside.first ∷ us) (c.as_slice.ensures ∙ c.in_ok-push.ensures.ok),
  c.self.invariant.mask_of,
)

pub invariant_of-self-2 : goal.invariant_of-self-2
invariant_of-self-2 c = record {
  small = rw (c.in_ok-push.ensures.ok)
      (All-push (λ w. w < 256) (c.self.inside.first ∷ c.self.inside.others.items) c.args.u c.self.invariant.small
      c.requires);
  mask_of = subst (λ us. IfSome c.mask_with-self-inside.result (IsMask (c.self.inside.first ∷ us))) c.as_slice.ensures
      c.mask_with-self-inside.ensures;
}
