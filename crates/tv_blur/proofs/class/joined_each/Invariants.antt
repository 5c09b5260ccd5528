use Rattle.std.proofs.Common.{◌≡◌, ◌+◌, ◌∷◌, get_or}
use Rattle.tv_kleene.specs.declared.K3.TheVariants.{No}
use Rattle.tv_blur.specs.Classes.{IsAmongFirst}
use Rattle.tv_blur.specs.Merged.{IsJoin}
use Rattle.tv_blur.proofs.class.joined_each.Given as goal

abbrev pub invariant-loop-i : goal.invariant-loop-i
invariant-loop-i l = IsJoin (IsAmongFirst (λ i j. get_or l.row (get_or (l.first ∷ l.others) i 0) No ≡ j) (l.i + 1)) l.k
