use Rattle.std.proofs.Common.{◌≡◌, ◌++◌, drop}
use Rattle.std.specs.List.{flat_map}
use Rattle.tv_listing.specs.ListingForm.{at_node}
use Rattle.tv_tvs.specs.Canonical.{canonical_text}
use Rattle.tv_report.proofs.write.write_structures.Given as goal

abbrev pub invariant-loop-i : goal.invariant-loop-i
invariant-loop-i l =
    l.out.items ++ flat_map (canonical_text l.vocab) (drop l.i (at_node l.listing l.node))
    ≡ l.initial.out.items ++ flat_map (canonical_text l.vocab) (at_node l.listing l.node)
