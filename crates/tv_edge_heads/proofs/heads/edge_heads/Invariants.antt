use Rattle.std.proofs.Common.{◌≡◌, List, map}
use Rattle.tv_lex.specs.Parts.{IsMadeOf}
use Rattle.tv_lex.specs.Traced.{Traced}
use Rattle.tv_tree.specs.Copies.{edge_of}
use Rattle.tv_edge_heads.proofs.Rows.{BeginHeads}
use Rattle.tv_edge_heads.proofs.heads.edge_heads.Given as goal

abbrev pub invariant-loop-number : goal.invariant-loop-number
invariant-loop-number l = record {
  same : l.lines ≡ l.gathered;
  heads : (traced : List Traced) → IsMadeOf traced l.gathered
      → BeginHeads traced (map edge_of l.edges) l.places.items l.number l.heads.items;
}
