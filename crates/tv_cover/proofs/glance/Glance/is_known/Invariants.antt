use Rattle.std.proofs.Common.{ℕ, ◌≢◌, ◌<◌, [], get_or}
use Rattle.tv_kleene.specs.declared.K3.TheVariants.{No, Half}
use Rattle.tv_cover.proofs.glance.Glance.is_known.Given as goal

abbrev pub invariant-loop-row : goal.invariant-loop-row
invariant-loop-row l = (k : ℕ) → k < l.row-index → get_or (get_or l.self.unary k []) l.place No ≢ Half
