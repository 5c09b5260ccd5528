use Rattle.std.proofs.Common.{◌≡◌, ◌++◌, take}
use Rattle.std.specs.List.{flat_map}
use Rattle.tv_listing.specs.ListingForm.{at_node}
use Rattle.tv_tvs.specs.Canonical.{canonical_text}
use Rattle.tv_report.proofs.matching.behind_structures.Given as goal

abbrev pub invariant-loop-i : goal.invariant-loop-i
invariant-loop-i l = l.bytes ≡ flat_map (canonical_text l.vocab) (take l.i (at_node l.listing l.node)) ++ l.rest
