use Rattle.std.proofs.Common.{◌≡◌, ◌∙◌, ◌++◌, Some, ap, append_assoc, sym, subst, arith, length}
use Rattle.std.specs.Prelude.{slice_get}
use Rattle.std.proofs.lemmas.Option.{slice_get-get_or}
use Rattle.tv_listing.specs.ListingForm.{at_node}
use Rattle.tv_explain_text.specs.Texts.{node_line, structure_lines}
use Rattle.tv_explain_text.proofs.Turns.{node_turn}
use Rattle.tv_explain_text.proofs.shown.shown_text.Goals as goal

pub loop-number-preserved : goal.loop-number-preserved
loop-number-preserved c =
    let number = c.loop-number.number in
    let names = c.as_slice-names.result.now in
    let name = c.as_slice-name.result.now in
    let here : slice_get names number ≡ Some name =
    slice_get-get_or names number c.index-names-number.result
    (omega (arith, c.loop-number-test.true, c.loop-number.auto.number-end))
    ∙ ap Some (sym c.index-names-number.is ∙ sym c.as_slice-name.ensures) in
    let there = subst (λ ns. slice_get ns number ≡ Some name) c.as_slice-names.ensures here in
    let vocab = c.args.program.now.vocab in
    let ss = at_node c.args.listing.now number in
    let out = c.loop-number.out.items in
    let line = c.in_ok-append_node_line.ensures ∙ ap (λ count. out ++ node_line name count) c.count.ensures in
    let grown = c.in_ok-append_structures.ensures ∙ ap (λ text. text ++ structure_lines vocab 0 ss) line
    ∙ append_assoc out (node_line name (length ss)) (structure_lines vocab 0 ss) in
    node_turn vocab c.args.listing.now c.args.program.now.nodes number name out c.append_structures.new.out.items _ there
    grown c.loop-number.invariant
