use Rattle.std.proofs.Common.{◌+◌, ◌-◌, ◌*◌, length}
use Rattle.tv_embed.proofs.SearchLaws.{IsTrying}
use Rattle.tv_embed.proofs.search.+search.Given as goal

abbrev pub decreases-search : goal.decreases-search
decreases-search l = 2 * (l.small.now.size - length l.images.now.items) + 1

abbrev pub decreases-try_image : goal.decreases-try_image
decreases-try_image l = 2 * (l.small.now.size - length l.images.now.items)

abbrev pub invariant-search-loop-w : goal.invariant-search-loop-w
invariant-search-loop-w l =
    IsTrying l.small l.large l.initial.images.items l.images.items l.w-items l.w-index
