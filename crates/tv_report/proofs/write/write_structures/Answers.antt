use Rattle.std.proofs.Common.{◌∙◌, ◌++◌, ◌+◌, ap, drop}
use Rattle.std.specs.List.{flat_map}
use Rattle.tv_listing.specs.ListingForm.{at_node}
use Rattle.tv_tvs.specs.Canonical.{canonical_text}
use Rattle.tv_report.proofs.Lists.{one_turn}
use Rattle.tv_report.proofs.write.write_structures.Goals as goal

pub loop-i-preserved : goal.loop-i-preserved
loop-i-preserved c =
    ap (λ t. t ++ flat_map (canonical_text c.args.vocab.now) (drop (c.loop-i.i + 1) (at_node c.args.listing.now c.args.node))) c.in_ok-append.ensures
    ∙ one_turn (canonical_text c.args.vocab.now) (at_node c.args.listing.now c.args.node) c.loop-i.i c.at.result.now c.loop-i.out.items _ c.at.ensures.value
    c.loop-i.invariant
