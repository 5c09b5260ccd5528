-- What declared predicates, nodes and edges of the code stand for.
use Rattle.std.specs.Prelude.{ℕ, List, map}
use Rattle.tv_vocab.specs.declared.graph.Nodes.{Nodes}
use Rattle.tv_vocab.specs.declared.graph.Graph.{Graph}
use Rattle.tv_vocab.specs.declared.draw.Drawn.{Drawn}
use Rattle.tv_vocab.specs.declared.vocabulary.Declared.{Declared}
use Rattle.tv_model.specs.Program.{PredForm, pred_of}
use Rattle.tv_names.specs.Symbols.{SymbolForm}
use Rattle.tv_names.specs.Copies.{symbols_of}
use Rattle.tv_vocab.specs.Graph.{GraphForm}

abbrev pub nodes_of : Nodes → List (List ℕ)
nodes_of nodes = map (λ name. name.items) nodes.names.keys

abbrev pub graph_of : Graph → GraphForm
graph_of graph = record { nodes = nodes_of graph.nodes; edges = graph.edges.items }

abbrev pub drawn_of : Drawn → GraphForm
drawn_of drawn = record { nodes = drawn.nodes; edges = drawn.edges }

abbrev pub declared_of : Declared → List SymbolForm × List PredForm
declared_of declared = (symbols_of declared.symbols, map pred_of declared.preds.items)
