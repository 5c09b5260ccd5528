use Rattle.std.proofs.Common.{ℕ, ◌≡◌, ◌<◌, ◌^◌, ◌++◌, take, length}
use Rattle.std.specs.List.{flat_map, zip}
use Rattle.tv_listing.specs.ListingForm.{at_node}
use Rattle.tv_report.proofs.Fronts.{node_of}
use Rattle.tv_report.proofs.matching.behind_nodes.Given as goal

abbrev pub invariant-loop-number : goal.invariant-loop-number
invariant-loop-number l = record {
  few : (k : ℕ) → k < l.number → length (at_node l.listing k) < 2 ^ 32;
  text : l.bytes ≡ flat_map (node_of l.program.vocab) (take l.number (zip l.program.nodes l.listing)) ++ l.rest;
}
