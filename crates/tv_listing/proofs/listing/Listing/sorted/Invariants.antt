use Rattle.std.proofs.Common.{◌≡◌, ◌<◌, ◌≤◌, ℕ, length}
use Rattle.tv_listing.specs.ListingForm.{at_node, IsSortedFrom}
use Rattle.tv_listing.proofs.listing.Listing.sorted.Given as goal

abbrev pub invariant-loop-i : goal.invariant-loop-i
invariant-loop-i l = record {
  nodes : length l.nodes.items ≡ length l.fn.self;
  each : (node : ℕ) → node < l.i → IsSortedFrom (at_node l.fn.self node) (at_node l.nodes.items node);
  others : (node : ℕ) → l.i ≤ node → at_node l.nodes.items node ≡ at_node l.fn.self node;
}
