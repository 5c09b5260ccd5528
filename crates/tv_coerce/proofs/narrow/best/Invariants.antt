-- The individuals so far.
use Rattle.std.proofs.Common.{◌≡◌, ◌<◌, ℕ, Bool, length, get_or}
use Rattle.std.specs.Prelude.{All}
use Rattle.tv_kleene.specs.declared.K3.TheVariants.{No}
use Rattle.tv_model.specs.Truth.{Assignment}
use Rattle.tv_coerce_members.specs.Members.{AreSteps}
use Rattle.tv_coerce.specs.Counting.{IsBest, IsSeen, members_in}
use Rattle.tv_coerce.proofs.narrow.best.Given as goal

abbrev pub invariant-loop-u : goal.invariant-loop-u
invariant-loop-u l =
    (length l.word ≡ 64)
    × ((left : ℕ) (last : Bool) (w : ℕ) (b : Assignment) → AreSteps (members_in l.trial) left last l.steps
    → All (IsSeen l.trial w) l.steps → b l.v.0 < l.u → b w < l.trial.structure.now.size
    → IsBest l.trial left last b (get_or l.begun (b w) No) (get_or l.word (b l.v.0) No))
