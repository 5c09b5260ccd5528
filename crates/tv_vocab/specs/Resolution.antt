-- The program of a flat tree, or the first refusal.
use Rattle.std.specs.Prelude.{Ok}
use Rattle.tv_flat.specs.FlatForm.{FlatForm}
use Rattle.tv_model.specs.Program.{ProgramForm}
use Rattle.tv_names.specs.Refusal.{◌>>=◌, OrRefused, each}
use Rattle.tv_vocab.specs.Vocabulary.{vocabulary, rule}
use Rattle.tv_vocab.specs.Actions.{action}
use Rattle.tv_vocab.specs.Graph.{graph}

-- predicates and their definitions, then rules, then actions, then nodes and edges
unfoldable pub program : FlatForm → OrRefused ProgramForm
program flat = do
  declared ← vocabulary flat.preds
  rules ← each (λ r. rule declared.0 r.body r.head) flat.rules
  actions ← each (action declared.0 declared.1) flat.actions
  drawn ← graph flat.edges
  Ok (record {
    preds = declared.1;
    rules = rules;
    actions = actions;
    edges = drawn.edges;
    nodes = drawn.nodes;
  })
