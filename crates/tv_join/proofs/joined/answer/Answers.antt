use Rattle.std.proofs.Common.{List, subst}
use Rattle.std.specs.Result.{IfOk}
use Rattle.tv_listing.specs.ListingForm.{AreSorted}
use Rattle.tv_structure_form.specs.StructureForm.{StructureForm}
use Rattle.tv_join.proofs.Nodes.{listing-same}
use Rattle.tv_join.proofs.joined.answer.Goals as goal

pub returns-clause-listing : goal.returns-clause-listing
returns-clause-listing c =
    let nodes = c.args.ended.joins.nodes
    in let same = listing-same nodes c.in_ok-listing.listing c.in_ok-listing.ensures.count c.in_ok-listing.ensures.each
    in subst (λ (l : List (List StructureForm)). IfOk c.analysis_of.result (λ a. AreSorted l a.listing)) same
    c.analysis_of.ensures.listing
