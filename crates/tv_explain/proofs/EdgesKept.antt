-- The edges of a program are those of its tree.
use Rattle.std.proofs.Common.{ℕ, ◌≡◌, ◌∙◌, List, [], Some, Ok, Err, ap, sym, subst}
use Rattle.std.specs.List.{AllZip}
use Rattle.tv_flat.specs.FlatForm.{FlatEdgeForm, FlatForm}
use Rattle.tv_model.specs.Program.{ProgramForm}
use Rattle.tv_model.specs.declared.program.Edge.{Edge}
use Rattle.tv_names.specs.Refusal.{OrRefused, each}
use Rattle.tv_tree.specs.Forms.{EdgeForm}
use Rattle.tv_vocab.specs.Actions.{action}
use Rattle.tv_vocab.specs.Graph.{GraphForm, graph}
use Rattle.tv_vocab.specs.Resolution.{program}
use Rattle.tv_vocab.specs.Vocabulary.{vocabulary, rule}
use Rattle.tv_explain.specs.Edges.{EdgesAreKept, IsEdgeOf}
use Rattle.tv_explain.proofs.EdgesDrawn.{IsDrawnOf, drawn_edges}
use Rattle.tv_explain.proofs.EdgeSteps.{both_ok, zip_through}
use Rattle.tv_explain.proofs.EdgesWired.{IsFlatOf, flat_edges}

-- the graph of a program
record HasGraph (f : FlatForm) (p : ProgramForm) : Type 0 where
  drawn : GraphForm
  is : graph f.edges ≡ Ok drawn
  nodes : p.nodes ≡ drawn.nodes
  edges : p.edges ≡ drawn.edges

abbrev nodes_of : OrRefused ProgramForm → List (List ℕ)
nodes_of (Ok p) = p.nodes
nodes_of (Err e) = []

abbrev edges_of : OrRefused ProgramForm → List Edge
edges_of (Ok p) = p.edges
edges_of (Err e) = []

has_graph : (f : FlatForm) (p : ProgramForm) → program f ≡ Ok p → HasGraph f p
unfolding program
has_graph f p is =
    let a = both_ok (vocabulary f.preds) _ p is in
    let b = both_ok (each (λ r. rule a.0.0 r.body r.head) f.rules) _ p a.2 in
    let c = both_ok (each (action a.0.0 a.0.1) f.actions) _ p b.2 in
    let d = both_ok (graph f.edges) _ p c.2 in
    record {
      drawn = d.0;
      is = d.1;
      nodes = ap nodes_of (sym d.2);
      edges = ap edges_of (sym d.2);
    }

pub kept : EdgesAreKept
kept t f p flat resolved =
    let g = has_graph f p resolved in
    let drawn : AllZip (IsDrawnOf p.nodes) f.edges p.edges =
    subst (λ ns. AllZip (IsDrawnOf ns) f.edges p.edges) (sym g.nodes)
    (subst (AllZip (IsDrawnOf g.drawn.nodes) f.edges) (sym g.edges) (drawn_edges f.edges g.drawn g.is)) in
    zip_through IsFlatOf (IsDrawnOf p.nodes) (IsEdgeOf p.nodes) through t.edges f.edges p.edges
    (flat_edges t f flat) drawn
  where
    through : (e : EdgeForm) (d : FlatEdgeForm) (x : Edge) → IsFlatOf e d → IsDrawnOf p.nodes d x → IsEdgeOf p.nodes e x
    through e d x named drawn = record {
      from = drawn.from ∙ ap Some named.from;
      to = drawn.to ∙ ap Some named.to;
    }
