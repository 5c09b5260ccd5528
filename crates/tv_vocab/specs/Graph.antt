-- The nodes and edges of a flat program.
use Rattle.std.specs.Prelude.{ℕ, nat_le, List, [], ◌∷◌, ◌++◌, length, Ok, Err, if◌then◌else◌}
use Rattle.std.specs.List.{position_or_len}
use Rattle.std.specs.Str.{bytes_eq}
use Rattle.tv_flat.specs.FlatForm.{FlatEdgeForm}
use Rattle.tv_model.specs.declared.program.Edge.{Edge}
use Rattle.tv_names.specs.declared.refusal.ResolveError.TheVariants.{TooMany, NoEdge}
use Rattle.tv_names.specs.Refusal.{◌>>=◌, OrRefused, refused_if, one_by_one}
use Rattle.tv_tree.specs.Names.{is_among}

-- nodes in order of first sight, and edges
pub record GraphForm : Type 0 where
  pub nodes : List (List ℕ)
  pub edges : List Edge

-- the nodes, with this one behind them if it is new
unfoldable pub with_node : List ℕ → List (List ℕ) → OrRefused (List (List ℕ))
with_node name nodes =
    if is_among nodes name then Ok nodes
    else (if nat_le 4096 (length nodes) then Err TooMany else Ok (nodes ++ name ∷ []))

abbrev pub node_number : List ℕ → List (List ℕ) → ℕ
node_number name nodes = position_or_len (bytes_eq name) nodes

-- one edge more: first the node that it leaves, then the one that it enters
unfoldable pub with_edge : GraphForm → FlatEdgeForm → OrRefused GraphForm
with_edge graph e = do
  left ← with_node e.from graph.nodes
  both ← with_node e.to left
  a ← refused_if (nat_le 16384 (length graph.edges)) TooMany
  Ok (record {
    nodes = both;
    edges = graph.edges
        ++ record { from = node_number e.from both; action = e.action; to = node_number e.to both } ∷ [];
  })

abbrev pub no_graph : GraphForm
no_graph = record { nodes = []; edges = [] }

-- the nodes and edges of a program, which has an edge
abbrev pub graph : List FlatEdgeForm → OrRefused GraphForm
graph [] = Err NoEdge
graph (e ∷ es) = one_by_one with_edge no_graph (e ∷ es)
