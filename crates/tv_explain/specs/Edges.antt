-- The edges of a program and those of its tree.
use Rattle.std.specs.Prelude.{ℕ, ◌≡◌, List, Some, Ok, slice_get}
use Rattle.std.specs.List.{AllZip}
use Rattle.tv_expand.specs.Expansion.{expansion}
use Rattle.tv_flat.specs.FlatForm.{FlatForm}
use Rattle.tv_model.specs.Program.{ProgramForm}
use Rattle.tv_model.specs.declared.program.Edge.{Edge}
use Rattle.tv_tree.specs.Forms.{EdgeForm, ProgramForm as TreeForm}
use Rattle.tv_vocab.specs.Resolution.{program}

-- the edge leaves and enters the nodes of these names
pub record IsEdgeOf (nodes : List (List ℕ)) (written : EdgeForm) (edge : Edge) : Type 0 where
  pub from : slice_get nodes edge.from ≡ Some written.from
  pub to : slice_get nodes edge.to ≡ Some written.to

-- so does each edge of a program that a tree means, with the edge at its place in the tree
abbrev pub EdgesAreKept : Type 0
EdgesAreKept = (t : TreeForm) (f : FlatForm) (p : ProgramForm) → expansion t ≡ Ok f → program f ≡ Ok p
    → AllZip (IsEdgeOf p.nodes) t.edges p.edges
