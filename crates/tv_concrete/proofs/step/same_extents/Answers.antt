-- Equality element by element, three lists deep.
use Rattle.std.proofs.Common.{◌≡◌, ◌↔◌, Bool, IsTrue, subst, sym}
use Rattle.std.specs.Cmp.Lexicographic.{pointwise_decides, bytes_decides}
use Rattle.tv_concrete.proofs.step.same_extents.Goals as goal

pub returns : goal.returns
returns c =
    let P : Bool → Type 0 = λ b. IsTrue b ↔ (c.args.xs.now ≡ c.args.ys.now)
    in subst P (sym c.eq.ensures) (pointwise_decides (pointwise_decides bytes_decides) c.args.xs.now c.args.ys.now)
