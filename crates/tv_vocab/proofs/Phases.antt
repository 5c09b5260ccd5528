-- The phases of resolution, one after the other.
use Rattle.std.proofs.Common.{◌≡◌, List, refl, Ok}
use Rattle.tv_model.specs.Program.{PredForm, RuleForm, ActionForm}
use Rattle.tv_flat.specs.FlatForm.{FlatForm}
use Rattle.tv_names.specs.declared.refusal.ResolveError.{ResolveError}
use Rattle.tv_names.specs.Refusal.{Refuses, each}
use Rattle.tv_names.specs.Symbols.{SymbolForm}
use Rattle.tv_vocab.specs.Vocabulary.{vocabulary, rule}
use Rattle.tv_vocab.specs.Actions.{action}
use Rattle.tv_vocab.specs.Graph.{GraphForm, graph}
use Rattle.tv_vocab.specs.Resolution.{program}
use Rattle.tv_vocab.proofs.Eaches.{refuses_then}

module _ (flat : FlatForm) (v : List SymbolForm × List PredForm) (declared : vocabulary flat.preds ≡ Ok v) where
  pub rules_refused : (e : ResolveError) → Refuses e (each (λ r. rule v.0 r.body r.head) flat.rules) → Refuses e (program flat)
  unfolding program
  rules_refused e h = rw declared (refuses_then e (each (λ r. rule v.0 r.body r.head) flat.rules) _ h)

  module _ (rs : List RuleForm) (ruled : each (λ r. rule v.0 r.body r.head) flat.rules ≡ Ok rs) where
    pub actions_refused : (e : ResolveError) → Refuses e (each (action v.0 v.1) flat.actions) → Refuses e (program flat)
    unfolding program
    actions_refused e h = rw (declared, ruled) (refuses_then e (each (action v.0 v.1) flat.actions) _ h)

    module _ (as' : List ActionForm) (acted : each (action v.0 v.1) flat.actions ≡ Ok as') where
      pub graph_refused : (e : ResolveError) → Refuses e (graph flat.edges) → Refuses e (program flat)
      unfolding program
      graph_refused e h = rw (declared, ruled, acted) (refuses_then e (graph flat.edges) _ h)

      pub program_given : (g : GraphForm) → graph flat.edges ≡ Ok g → program flat ≡ Ok (record { preds = v.1; rules = rs; actions = as'; edges = g.edges; nodes = g.nodes })
      unfolding program
      program_given g drawn = rw (declared, ruled, acted, drawn) refl
