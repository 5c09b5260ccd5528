use Rattle.std.proofs.Common.{◌∙◌, ◌≡◌, ◌<◌, ◌++◌, ◌+◌, [], Some, ap, sym, subst, drop, length, arith}
use Rattle.std.specs.Prelude.{slice_get}
use Rattle.std.specs.List.{flat_map, zip}
use Rattle.std.proofs.lemmas.Option.{slice_get-get_or}
use Rattle.tv_listing.specs.ListingForm.{at_node}
use Rattle.tv_report.specs.Text.{node_text}
use Rattle.tv_report.proofs.Lists.{one_turn, no_turn, zipped_at, zipped_length}
use Rattle.tv_report.proofs.write.write_nodes.Goals as goal

pub loop-number-preserved : goal.loop-number-preserved
loop-number-preserved c =
    let number = c.loop-number.number
    in let names : length c.as_slice-names.result.now ≡ length c.args.program.now.nodes = ap length c.as_slice-names.ensures
    in let within : number < length c.args.listing.now = omega (arith, c.loop-number-test.true, c.loop-number.auto.number-end, c.requires.listing.nodes, names)
    in let here : slice_get c.as_slice-names.result.now number ≡ Some c.as_slice-name.result.now
    = slice_get-get_or c.as_slice-names.result.now number c.index-names-number.result (omega (arith, c.loop-number-test.true, c.loop-number.auto.number-end))
    ∙ ap Some (sym c.index-names-number.is ∙ sym c.as_slice-name.ensures)
    in let name = subst (λ ns. slice_get ns number ≡ Some c.as_slice-name.result.now) c.as_slice-names.ensures here
    in ap (λ t. t ++ flat_map (λ node. node_text c.args.program.now.vocab node.0 node.1) (drop (number + 1) (zip c.args.program.now.nodes c.args.listing.now))) c.in_ok-write_node.ensures
    ∙ one_turn (λ node. node_text c.args.program.now.vocab node.0 node.1) (zip c.args.program.now.nodes c.args.listing.now) number
    (c.as_slice-name.result.now, at_node c.args.listing.now number) c.loop-number.out.items _
    (zipped_at c.args.program.now.nodes c.args.listing.now number _ _ name (slice_get-get_or c.args.listing.now number [] within)) c.loop-number.invariant

pub returns : goal.returns
returns c =
    let few = zipped_length c.args.program.now.nodes c.args.listing.now
    in let names : length c.as_slice-names.result.now ≡ length c.args.program.now.nodes = ap length c.as_slice-names.ensures
    in no_turn (λ node. node_text c.args.program.now.vocab node.0 node.1) (zip c.args.program.now.nodes c.args.listing.now) c.loop-number.number c.loop-number.out.items _
    (omega (arith, few, c.loop-number-test.false, c.loop-number.auto.number-end, names)) c.loop-number.invariant
