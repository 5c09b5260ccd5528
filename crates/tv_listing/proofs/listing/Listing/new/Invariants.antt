use Rattle.std.proofs.Common.{◌≡◌, [], replicate}
use Rattle.tv_listing.proofs.listing.Listing.new.Given as goal

abbrev pub invariant-loop : goal.invariant-loop
invariant-loop l = l.lists.items ≡ replicate l.counter []
