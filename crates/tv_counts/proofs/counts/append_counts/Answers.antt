use Rattle.std.proofs.Common.{◌≡◌, ◌∙◌, ◌++◌, Some, ap, sym, subst, arith}
use Rattle.std.specs.Prelude.{slice_get}
use Rattle.std.proofs.lemmas.Option.{slice_get-get_or}
use Rattle.tv_explain_text.specs.Texts.{node_line}
use Rattle.tv_counts.proofs.Turns.{count_turn}
use Rattle.tv_counts.proofs.counts.append_counts.Goals as goal

pub loop-number-preserved : goal.loop-number-preserved
loop-number-preserved c =
    let number = c.loop-number.number in
    let names = c.as_slice-names.result.now in
    let name = c.as_slice-name.result.now in
    let here : slice_get names number ≡ Some name =
    slice_get-get_or names number c.index-names-number.result
    (omega (arith, c.loop-number-test.true, c.loop-number.auto.number-end))
    ∙ ap Some (sym c.index-names-number.is ∙ sym c.as_slice-name.ensures) in
    let there = subst (λ ns. slice_get ns number ≡ Some name) c.as_slice-names.ensures here in
    count_turn c.args.listing.now c.args.program.now.nodes number name
    c.loop-number.out.items c.append_node_line.new.out.items _ there
    (c.in_ok-append_node_line.ensures ∙ ap (λ n. c.loop-number.out.items ++ node_line name n) c.count.ensures)
    c.loop-number.invariant
