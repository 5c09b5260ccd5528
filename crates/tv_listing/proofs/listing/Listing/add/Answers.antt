use Rattle.std.proofs.Common.{◌<◌, List, [], length, refl, subst, sym}
use Rattle.std.proofs.lemmas.List.{get_or_read_under}
use Rattle.tv_structure_form.specs.StructureForm.{StructureForm}
use Rattle.tv_listing.proofs.ListingLaws.{AddsAt-from_list}
use Rattle.tv_listing.proofs.listing.Listing.add.Goals as goal

pub returns : goal.returns
returns c =
    let Within : List (List StructureForm) → Type 0 = λ listing. c.args.node < length listing
    in let within : c.args.node < length c.self.inside.nodes.items = subst Within (sym c.self.view_is) c.requires
    in rw (← c.self.view_is)
    (AddsAt-from_list c.self.inside.nodes.items c.args.node c.index_mut-list.result.now c.add.new.self c.args.s c.add.result
    (get_or_read_under c.self.inside.nodes.items c.args.node (length c.self.inside.nodes.items)
    c.index_mut-list.result.now [] c.index_mut-list.ensures.value within refl)
    c.add.ensures)
