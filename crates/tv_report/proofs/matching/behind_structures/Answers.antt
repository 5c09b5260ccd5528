use Rattle.std.proofs.Common.{◌≡◌, ◌++◌, subst}
use Rattle.std.specs.Prelude.{IfSome}
use Rattle.tv_listing.specs.ListingForm.{at_node}
use Rattle.tv_tvs.specs.Canonical.{canonical_text}
use Rattle.tv_report.proofs.Fronts.{next_front}
use Rattle.tv_report.proofs.matching.behind_structures.Goals as goal

pub loop-i-preserved : goal.loop-i-preserved
loop-i-preserved c =
    let text = canonical_text c.args.vocab.now
    in let front = subst (λ o. IfSome o (λ rest. c.loop-i.rest.now ≡ text c.at.result.now ++ rest.now)) c.in-Some.is c.in_ok-behind_structure.ensures
    in next_front text (at_node c.args.listing.now c.args.node) c.loop-i.i c.at.result.now c.args.bytes.now c.loop-i.rest.now c.in-Some.next.now
    c.at.ensures.value c.loop-i.invariant front
