-- The limits of compiled programs, by what is counted before and while they are built.
use Rattle.std.proofs.Common.{ℕ, ◌≡◌, ◌≤◌, ◌<◌, ◌+◌, ◌*◌, ◌∙◌, zero, suc, List, ◌++◌, length, map, arith}
use Rattle.std.proofs.Common.{ap, length-append, sym}
use Rattle.std.specs.List.{flat_map, range_with_len}
use Rattle.std.proofs.lemmas.List.{length-map}
use Rattle.std.proofs.lemmas.List.FromFn.{length-range_with_len}
use Rattle.tv_model.specs.Valid.{first_occurrences}
use Rattle.tv_source.specs.Forms.{SourceForm}
use Rattle.tv_plang_laws.specs.Compiled.{IsSmall, compiled, compiled_preds, ends, field_pred, node_name}
use Rattle.tv_plang_laws.specs.Compiled.{node_positions, numbers_below, program_arcs, reach_pred, reach_preds}
use Rattle.tv_plang_laws.specs.Compiled.{variable_pred}
use Rattle.tv_plang_laws.specs.Positions.{last}
use Rattle.tv_plang_laws.proofs.Valid.{block-count, edges-length}
use Rattle.tv_plang.specs.Arcs.{arc_of, arcs_of}
use Rattle.tv_plang.specs.declared.arcs.Arc.{Arc}
use Rattle.tv_plang.specs.Limits.{HasFewNames, HasFewPredicates}

flat-length : {X : Type 0} (g : ℕ → List X) (k : ℕ) → ((i : ℕ) → length (g i) ≡ k) → (a n : ℕ)
    → length (flat_map g (range_with_len a n)) ≡ n * k
flat-length g k each a zero = omega arith
flat-length g k each a (suc n) =
    let joined = length-append (g a) (flat_map g (range_with_len (a + 1) n))
    in let later = flat-length g k each (a + 1) n
    in let product : suc n * k ≡ k + n * k = grind arith
    in omega (arith, joined, later, product, each a)

pub preds-count : (p : SourceForm)
    → length (compiled_preds p) ≡ length p.variables + length p.fields + length p.variables * length p.fields
preds-count p =
    let of_field : (f : ℕ) → length (map (reach_pred p f) (numbers_below (length p.variables))) ≡ length p.variables
    = λ f. length-map (numbers_below (length p.variables)) (reach_pred p f) ∙ length-range_with_len 0 (length p.variables)
    in let reached : length (reach_preds p) ≡ length p.fields * length p.variables
    = flat-length (λ f. map (reach_pred p f) (numbers_below (length p.variables))) (length p.variables) of_field 0 (length p.fields)
    in let product : length p.fields * length p.variables ≡ length p.variables * length p.fields = grind arith
    in omega (
      arith,
      reached,
      product,
      length-append (map variable_pred p.variables) (map field_pred p.fields ++ reach_preds p),
      length-append (map field_pred p.fields) (reach_preds p),
      length-map p.variables variable_pred,
      length-map p.fields field_pred,
    )

pub few-from_small : (p : SourceForm) → IsSmall (compiled p) → HasFewPredicates p
few-from_small p small = omega (arith, small.preds, preds-count p)

pub names-from_few : (p : SourceForm) → HasFewPredicates p → HasFewNames p
names-from_few p few = record { variables = omega (arith, few); fields = omega (arith, few) }

pub statements-from_small : (p : SourceForm) → IsSmall (compiled p) → last p ≤ 16384
statements-from_small p small = omega (arith, small.edges, edges-length p 0 (program_arcs p), block-count p 0 p.body (last p))

pub edges-past : (p : SourceForm) → 16384 < length (program_arcs p) → ¬ IsSmall (compiled p)
edges-past p past small = omega (arith, past, small.edges, edges-length p 0 (program_arcs p))

pub nodes-past : (p : SourceForm) → 4096 < length (node_positions p) → ¬ IsSmall (compiled p)
nodes-past p past small = omega (arith, past, small.nodes, length-map (node_positions p) (node_name (last p)))

pub small-from : (p : SourceForm) → HasFewPredicates p → length (program_arcs p) ≤ 16384 → length (node_positions p) ≤ 4096
    → IsSmall (compiled p)
small-from p few edges nodes = record {
  preds = omega (arith, few, preds-count p);
  nodes = omega (arith, nodes, length-map (node_positions p) (node_name (last p)));
  edges = omega (arith, edges, edges-length p 0 (program_arcs p));
}

-- as many edges as were built
pub edges-built : (p : SourceForm) (built : List Arc) → arcs_of built ≡ program_arcs p
    → length (program_arcs p) ≡ length built
edges-built p built is = ap length (sym is) ∙ length-map built arc_of

-- as many nodes as places were seen in what was built
pub nodes-built : (p : SourceForm) (built seen : List Arc) (places : List ℕ)
    → arcs_of built ≡ program_arcs p → seen ≡ built → places ≡ first_occurrences (flat_map ends (arcs_of seen))
    → length places ≡ length (node_positions p)
nodes-built p built seen places is same are = ap length (are ∙ ap (λ xs. first_occurrences (flat_map ends (arcs_of xs))) same
    ∙ ap (λ xs. first_occurrences (flat_map ends xs)) is)
