-- Listings of a program.
use Rattle.std.specs.Prelude.{◌≡◌, ◌<◌, ◌^◌, List, length, All}
use Rattle.tv_model.specs.declared.program.Program.{Program}
use Rattle.tv_structure_form.specs.StructureForm.{StructureForm, IsStructure, IsOver}

-- for each node a list of fewer than 2 ^ 32 structures over the vocabulary
pub record IsListing (program : Program) (listing : List (List StructureForm)) : Type 0 where
  pub nodes : length listing ≡ length program.nodes
  pub counts : All (λ structures. length structures < 2 ^ 32) listing
  pub structures : All (All (λ s. IsStructure s × IsOver program.vocab s)) listing
