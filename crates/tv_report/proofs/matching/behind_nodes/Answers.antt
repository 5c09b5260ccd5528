use Rattle.std.proofs.Common.{◌≡◌, ◌<◌, ◌^◌, ◌++◌, ◌∙◌, Some, ap, sym, subst, length, arith}
use Rattle.std.specs.Prelude.{IfSome, slice_get}
use Rattle.std.proofs.lemmas.Option.{slice_get-get_or}
use Rattle.tv_listing.specs.ListingForm.{at_node}
use Rattle.tv_report.specs.Text.{node_text}
use Rattle.tv_report.proofs.Fronts.{next_node, all_nodes, few_more}
use Rattle.tv_report.proofs.matching.behind_nodes.Goals as goal

pub loop-number-preserved : goal.loop-number-preserved
loop-number-preserved c =
    let number = c.loop-number.number
    in let vocab = c.args.program.now.vocab
    in let names = c.args.program.now.nodes
    in let listing = c.args.listing.now
    in let name = c.as_slice-name.result.now
    in let count : length c.as_slice-names.result.now ≡ length names = ap length c.as_slice-names.ensures
    in let within : number < length listing = omega (arith, c.loop-number-test.true, c.loop-number.auto.number-end, c.requires.nodes, count)
    in let here : slice_get c.as_slice-names.result.now number ≡ Some name
    = slice_get-get_or c.as_slice-names.result.now number c.index-names-number.result (omega (arith, c.loop-number-test.true, c.loop-number.auto.number-end))
    ∙ ap Some (sym c.index-names-number.is ∙ sym c.as_slice-name.ensures)
    in let at = subst (λ ns. slice_get ns number ≡ Some name) c.as_slice-names.ensures here
    in let last = subst (λ o. IfSome o (λ rest. length (at_node listing number) < 2 ^ 32)) c.in-Some.is c.in_ok-behind_node.ensures.few
    in let next = subst (λ o. IfSome o (λ rest. c.loop-number.rest.now ≡ node_text vocab name (at_node listing number) ++ rest.now)) c.in-Some.is c.in_ok-behind_node.ensures.text
    in record {
      few = few_more listing number c.loop-number.invariant.few last;
      text = next_node vocab names listing number name c.args.bytes.now c.loop-number.rest.now c.in-Some.next.now at within c.loop-number.invariant.text next;
    }

pub returns-clause-text : goal.returns-clause-text
returns-clause-text c =
    let count : length c.as_slice-names.result.now ≡ length c.args.program.now.nodes = ap length c.as_slice-names.ensures
    in all_nodes c.args.program.now.vocab c.args.program.now.nodes c.args.listing.now c.loop-number.number c.args.bytes.now c.loop-number.rest.now
    (omega (arith, c.loop-number-test.false, c.loop-number.auto.number-end, count)) c.loop-number.invariant.text
