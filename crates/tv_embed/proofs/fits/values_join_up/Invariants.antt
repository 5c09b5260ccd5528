use Rattle.std.proofs.Common.{ℕ, ◌<◌, [], ◌∷◌, length}
use Rattle.tv_embed.specs.Fits.{ValueFits}
use Rattle.tv_embed.specs.Maps.{image_of}
use Rattle.tv_embed.proofs.fits.values_join_up.Given as goal

abbrev pub invariant-loop-x : goal.invariant-loop-x
invariant-loop-x l =
    (q : ℕ) → q < l.x
    → ValueFits l.small l.large l.p.0 (length l.images ∷ q ∷ []) (l.w ∷ image_of l.images q ∷ [])
    × ValueFits l.small l.large l.p.0 (q ∷ length l.images ∷ []) (image_of l.images q ∷ l.w ∷ [])
