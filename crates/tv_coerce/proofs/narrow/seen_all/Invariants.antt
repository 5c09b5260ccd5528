-- The members so far.
use Rattle.std.proofs.Common.{◌≡◌, ◌<◌, ℕ, length, get_or}
use Rattle.std.specs.Prelude.{All}
use Rattle.tv_kleene.specs.declared.K3.TheVariants.{No}
use Rattle.tv_model.specs.Truth.{Assignment}
use Rattle.tv_coerce.specs.Counting.{IsSeen, members_in}
use Rattle.tv_coerce.proofs.Counts.{TellsBy}
use Rattle.tv_coerce.proofs.narrow.seen_all.Given as goal

abbrev pub invariant-loop-step : goal.invariant-loop-step
invariant-loop-step l =
    (length l.word ≡ 64)
    × ((w : ℕ) (b : Assignment) → All (IsSeen l.trial w) l.steps → b l.v.0 ≡ l.u → b w < l.trial.structure.now.size
    → TellsBy l.trial.structure.now b (members_in l.trial) l.steps l.step-index (get_or l.word (b w) No))
