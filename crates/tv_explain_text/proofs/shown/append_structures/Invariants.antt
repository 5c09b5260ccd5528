use Rattle.std.proofs.Common.{◌≡◌, ◌++◌, drop}
use Rattle.tv_listing.specs.ListingForm.{at_node}
use Rattle.tv_explain_text.specs.Texts.{structure_lines}
use Rattle.tv_explain_text.proofs.shown.append_structures.Given as goal

abbrev pub invariant-loop-i : goal.invariant-loop-i
invariant-loop-i l =
    l.out.items ++ structure_lines l.vocab l.i (drop l.i (at_node l.listing l.node))
    ≡ l.initial.out.items ++ structure_lines l.vocab 0 (at_node l.listing l.node)
