-- What the reader does with one node of a report.
use Rattle.std.specs.Prelude.{ℕ, ◌≡◌, ◌<◌, ◌^◌, ◌⊎◌, List, ◌++◌, length, Some, None, All, Contains, slice_get}
use Rattle.std.specs.Prelude.{slice_set}
use Rattle.tv_model.specs.declared.program.Vocab.{Vocab}
use Rattle.tv_listing.specs.ListingForm.{at_node}
use Rattle.tv_structure_form.specs.StructureForm.{StructureForm}
use Rattle.tv_tvs.specs.Targets.{IsRead}
use Rattle.tv_report.specs.Meaning.{NamedNode, node_name}
use Rattle.tv_report.specs.Once.{GoesOn, Breaks}

-- the structures of a node, as they are read
abbrev pub AreRead : Vocab → List StructureForm → Type 0
AreRead vocab structures = All (IsRead vocab) structures × (length structures < 2 ^ 32)

-- the node's structures are put behind those that are listed at its number, and its name behind the old ones
pub record IsPut (nodes old new : List (List ℕ)) (before after : List (List StructureForm))
    (node : NamedNode) : Type 0 where
  pub goes_on : GoesOn (λ (n : NamedNode). Contains nodes n.name) node_name old new node
  pub number : ℕ
  pub found : slice_get nodes number ≡ Some node.name
  pub structures : List StructureForm
  pub meant : node.structures ≡ Some structures
  pub put : after ≡ slice_set before number (at_node before number ++ structures)

-- why it can't be
abbrev pub CannotPut : (nodes old : List (List ℕ)) → NamedNode → Type 0
CannotPut nodes old node =
    Breaks (λ (n : NamedNode). Contains nodes n.name) node_name old node ⊎ (node.structures ≡ None)
