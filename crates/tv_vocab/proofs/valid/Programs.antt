-- The programs that resolution gives.
use Rattle.std.proofs.Common.{◌≡◌, ℕ, ◌+◌, ◌<◌, ◌≤◌, false, List, length, subst, arith, Ok, Err}
use Rattle.std.specs.Prelude.{All, sum_by, IfOk}
use Rattle.tv_tree.specs.Forms as tree
use Rattle.tv_model.specs.declared.program.Edge.{Edge}
use Rattle.tv_model.specs.declared.program.Program.{Program}
use Rattle.tv_model.specs.Program.{ProgramForm, PredForm, RuleForm, ActionForm, program_of}
use Rattle.tv_model.specs.Valid.{IsValid}
use Rattle.tv_flat.specs.FlatForm.{FlatForm, part_items}
use Rattle.tv_vocab.specs.Premise.{IsResolvable}
use Rattle.tv_names.specs.declared.refusal.ResolveError.TheVariants.{DefinitionCycle}
use Rattle.tv_names.specs.Refusal.{◌>>=◌, OrRefused, GivesOrRefuses, refused_if, each}
use Rattle.tv_names.specs.Symbols.{SymbolForm}
use Rattle.tv_vocab.specs.Vocabulary.{symbols, predicate, uses_of, vocabulary, rule}
use Rattle.tv_vocab.specs.Cycles.{has_cycle}
use Rattle.tv_vocab.specs.Actions.{action}
use Rattle.tv_vocab.specs.Graph.{GraphForm, graph}
use Rattle.tv_vocab.specs.Resolution.{program}
use Rattle.tv_vocab.proofs.valid.Refusals.{ok_is, went, not_refused}
use Rattle.tv_vocab.proofs.valid.Predicates.{vocabulary_valid}
use Rattle.tv_vocab.proofs.valid.Rules.{rules_valid, as_many}
use Rattle.tv_vocab.proofs.valid.Graphs.{graph_given, some_edge}
use Rattle.tv_vocab.proofs.valid.Actions.{actions_valid}

record IsVocabulary (ds : List tree.PredForm) (x : List SymbolForm × List PredForm) : Type 0 where
  known : symbols ds ≡ Ok x.0
  preds : each (predicate x.0) ds ≡ Ok x.1
  sound : has_cycle (uses_of x.1) ≡ false

vocabulary_is : (ds : List tree.PredForm) (x : List SymbolForm × List PredForm) → vocabulary ds ≡ Ok x → IsVocabulary ds x
unfolding vocabulary
vocabulary_is ds x h =
    let a = went (symbols ds) (λ known. each (predicate known) ds >>= λ preds. refused_if (has_cycle (uses_of preds)) DefinitionCycle >>= λ s. Ok (known, preds)) x h in
    let b = went (each (predicate a.x) ds) (λ preds. refused_if (has_cycle (uses_of preds)) DefinitionCycle >>= λ s. Ok (a.x, preds)) x a.rest in
    let c = went (refused_if (has_cycle (uses_of b.x)) DefinitionCycle) (λ s. Ok (a.x, b.x)) x b.rest in
    subst (IsVocabulary ds) (ok_is (a.x, b.x) x c.rest)
    (record { known = a.gave; preds = b.gave; sound = not_refused (has_cycle (uses_of b.x)) DefinitionCycle c.x c.gave })

abbrev made : List PredForm → List RuleForm → List ActionForm → GraphForm → ProgramForm
made preds rules actions drawn = record { preds = preds; rules = rules; actions = actions; edges = drawn.edges; nodes = drawn.nodes }

abbrev from_actions : FlatForm → List PredForm → List RuleForm → List ActionForm → OrRefused ProgramForm
from_actions flat preds rules actions = graph flat.edges >>= λ drawn. Ok (made preds rules actions drawn)

abbrev from_rules : FlatForm → List SymbolForm × List PredForm → List RuleForm → OrRefused ProgramForm
from_rules flat declared rules = each (action declared.0 declared.1) flat.actions >>= λ actions. from_actions flat declared.1 rules actions

abbrev from_preds : FlatForm → List SymbolForm × List PredForm → OrRefused ProgramForm
from_preds flat declared = each (λ r. rule declared.0 r.body r.head) flat.rules >>= λ rules. from_rules flat declared rules

pub program_valid : (flat : FlatForm) (p : ProgramForm) → IsResolvable flat → program flat ≡ Ok p → IsValid p
unfolding program
program_valid flat p is h =
    let a = went (vocabulary flat.preds) (λ declared. from_preds flat declared) p h in
    let b = went (each (λ r. rule a.x.0 r.body r.head) flat.rules) (λ rules. from_rules flat a.x rules) p a.rest in
    let c = went (each (action a.x.0 a.x.1) flat.actions) (λ actions. from_actions flat a.x.1 b.x actions) p b.rest in
    let e = went (graph flat.edges) (λ drawn. Ok (made a.x.1 b.x c.x drawn)) p c.rest in
    let q = made a.x.1 b.x c.x e.x in
    let words = vocabulary_is flat.preds a.x a.gave in
    let known = vocabulary_valid q flat.preds a.x.0 is.names words.known words.preds words.sound in
    let items : length flat.preds + length flat.rules + sum_by (sum_by part_items) flat.actions + length flat.edges ≤ 65536 = is.items in
    let few : sum_by (sum_by part_items) flat.actions ≤ 65536 = omega (arith, items) in
    let many_rules = as_many (λ r. rule a.x.0 r.body r.head) flat.rules b.x b.gave in
    let many_actions = as_many (action a.x.0 a.x.1) flat.actions c.x c.gave in
    let drawn = graph_given (length flat.actions) flat.edges e.x is.edges e.gave in
    subst IsValid (ok_is q p e.rest)
    (record {
      preds = known.preds;
      pred_names_differ = known.differ;
      pred_count = known.count;
      rank = known.rank;
      no_cycle = known.no_cycle;
      rules = rules_valid q a.x.0 flat.rules b.x known.symbols b.gave;
      rule_count = omega (arith, items, many_rules);
      actions = actions_valid q a.x.0 flat.actions c.x known.symbols is.texts few c.gave;
      edges = subst (λ (n : ℕ). All (λ (edge : Edge). (edge.from < length e.x.nodes) × (edge.to < length e.x.nodes) × (edge.action < n)) e.x.edges) many_actions drawn.edges;
      some_edge = some_edge flat.edges e.x e.gave;
      edge_count = drawn.count;
      nodes = drawn.nodes.words;
      node_names_differ = drawn.nodes.differ;
      node_count = drawn.nodes.count;
    })

-- what a call answers where it gives what is defined
pub valid_given : (flat : FlatForm) (r : OrRefused Program) → GivesOrRefuses program_of r (program flat) → IsResolvable flat → IfOk r (λ p. IsValid (program_of p))
valid_given flat (Ok p) given is = program_valid flat (program_of p) is given
valid_given flat (Err e) given is = tt
