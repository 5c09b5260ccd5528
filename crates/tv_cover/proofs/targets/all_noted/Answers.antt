use Rattle.std.proofs.Common.{◌≤◌, List, length, ap, sym, ◌∙◌, arith}
use Rattle.std.specs.Prelude.{Some}
use Rattle.std.proofs.lemmas.List.{length-map}
use Rattle.tv_listing.specs.ListingForm.{at_node}
use Rattle.tv_structure_form.specs.StructureForm.{StructureForm}
use Rattle.tv_cover.specs.Glance.{glance_of}
use Rattle.tv_cover.specs.Indexed.{glances_of}
use Rattle.tv_cover.proofs.NotedLaws.{indexed-more, indexed-all, glance-at}
use Rattle.tv_cover.proofs.targets.all_noted.Goals as goal

pub loop-place-preserved : goal.loop-place-preserved
loop-place-preserved c =
    let structures : List StructureForm = at_node c.args.listing.now c.args.node
    in indexed-more c.loop-place.noted c.add.new.self (glances_of structures) c.loop-place.place
    c.in_ok-glance.glance
    (glance-at structures c.loop-place.place c.at.result.now c.at.ensures.value ∙ ap Some (sym c.in_ok-glance.ensures))
    c.in_ok-add.ensures c.loop-place.invariant

pub returns : goal.returns
returns c =
    let structures : List StructureForm = at_node c.args.listing.now c.args.node
    in let all : length (glances_of structures) ≤ c.loop-place.place
    = omega (arith, length-map structures glance_of, c.count-place-end.ensures, c.loop-place-test.false)
    in indexed-all c.loop-place.noted (glances_of structures) c.loop-place.place all c.loop-place.invariant
