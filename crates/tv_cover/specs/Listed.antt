-- The structures of a node.
use Rattle.std.specs.Prelude.{List}
use Rattle.tv_listing.specs.ListingForm.{at_node}
use Rattle.tv_structure_form.specs.StructureForm.{StructureForm}
use Rattle.tv_cover.specs.declared.targets.Listed.{Listed}

abbrev pub structures_in : Listed → List StructureForm
structures_in x = at_node x.listing.now x.node
