use Rattle.tv_listing.specs.ListingForm.{at_node}
use Rattle.tv_explain_text.proofs.Turns.{structure_turn}
use Rattle.tv_explain_text.proofs.shown.append_structures.Goals as goal

pub loop-i-preserved : goal.loop-i-preserved
loop-i-preserved c =
    structure_turn c.args.vocab.now (at_node c.args.listing.now c.args.node) c.loop-i.i c.at.result.now
    c.loop-i.out.items c.append_structure.new.out.items _ c.at.ensures.value c.in_ok-append_structure.ensures
    c.loop-i.invariant
