-- The edges of a program are those of its flat form.
use Rattle.std.proofs.Common.{ℕ, ◌≡◌, ◌∙◌, Bool, true, false, List, [], ◌∷◌, ◌++◌, Some, Ok, Err}
use Rattle.std.proofs.Common.{length, suc, ◌+◌, arith}
use Rattle.std.proofs.Common.{refl, sym, ap, subst, append_assoc, append-nil, inl, inr}
use Rattle.std.specs.Prelude.{slice_get, nat_le, if◌then◌else◌}
use Rattle.std.specs.List.{AllZip}
use Rattle.std.specs.Str.{bytes_eq}
use Rattle.std.proofs.lemmas.Bool.{cases_Bool}
use Rattle.std.proofs.lemmas.Slice.Eq.{bytes_eq-Decides}
use Rattle.tv_lemmas.proofs.Lists.{still_at}
use Rattle.tv_flat.specs.FlatForm.{FlatEdgeForm}
use Rattle.tv_model.specs.declared.program.Edge.{Edge}
use Rattle.tv_names.specs.Refusal.{OrRefused, ◌>>=◌, refused_if, one_by_one}
use Rattle.tv_names.specs.declared.refusal.ResolveError.TheVariants.{TooMany}
use Rattle.tv_tree.specs.Names.{is_among}
use Rattle.tv_vocab.specs.Graph.{GraphForm, graph, no_graph, node_number, with_edge, with_node}
use Rattle.tv_explain.proofs.EdgeSteps.{both_ok}

-- the edge leaves and enters the nodes of the flat edge
pub record IsDrawnOf (nodes : List (List ℕ)) (flat : FlatEdgeForm) (edge : Edge) : Type 0 where
  pub from : slice_get nodes edge.from ≡ Some flat.from
  pub to : slice_get nodes edge.to ≡ Some flat.to

at_next : {X : Type 0} (x y : X) (xs : List X) (k : ℕ) → slice_get xs k ≡ Some y → slice_get (x ∷ xs) (1 + k) ≡ Some y
at_next x y xs k at = let e : 1 + k ≡ suc k = omega arith in rw e at

-- a name that is among nodes stands at its number
among_at : (name : List ℕ) (nodes : List (List ℕ)) → is_among nodes name ≡ true
    → slice_get nodes (node_number name nodes) ≡ Some name
among_at name [] among = cc
among_at name (x ∷ nodes) among = elim (cases_Bool (bytes_eq name x)) [
  | inl is ↦ rw is (ap Some (sym ((bytes_eq-Decides name x).0 is)))
  | inr other ↦ rw other
      (at_next x name nodes (node_number name nodes) (among_at name nodes (rw other at among)))
]

among_last : (name : List ℕ) (nodes : List (List ℕ)) → is_among (nodes ++ name ∷ []) name ≡ true
among_last name [] = rw ((bytes_eq-Decides name name).1 refl) refl
among_last name (x ∷ nodes) = elim (cases_Bool (bytes_eq name x)) [
  | inl is ↦ rw is refl
  | inr other ↦ rw other (among_last name nodes)
]

-- the nodes with a name among them
record IsWith (name : List ℕ) (nodes more : List (List ℕ)) : Type 0 where
  added : List (List ℕ)
  is : more ≡ nodes ++ added
  among : is_among more name ≡ true

abbrev nodes_of : OrRefused (List (List ℕ)) → List (List ℕ)
nodes_of (Ok nodes) = nodes
nodes_of (Err e) = []

node_given : (name : List ℕ) (nodes more : List (List ℕ)) → with_node name nodes ≡ Ok more → IsWith name nodes more
unfolding with_node
node_given name nodes more given = by (is_among nodes name) refl given
  where
    grown : (full : Bool) → (if full then Err TooMany else Ok (nodes ++ name ∷ [])) ≡ Ok more → IsWith name nodes more
    grown true bad = cc
    grown false ok = record {
      added = name ∷ [];
      is = ap nodes_of (sym ok);
      among = subst (λ ns. is_among ns name ≡ true) (ap nodes_of ok) (among_last name nodes);
    }

    by : (b : Bool) → is_among nodes name ≡ b
        → (if b then Ok nodes else (if nat_le 4096 (length nodes) then Err TooMany else Ok (nodes ++ name ∷ []))) ≡ Ok more
        → IsWith name nodes more
    by true among ok = record {
      added = [];
      is = ap nodes_of (sym ok) ∙ sym (append-nil nodes);
      among = subst (λ ns. is_among ns name ≡ true) (ap nodes_of ok) among;
    }
    by false new ok = grown (nat_le 4096 (length nodes)) ok

-- one edge more
record IsOneMore (old new : GraphForm) (flat : FlatEdgeForm) : Type 0 where
  added : List (List ℕ)
  edge : Edge
  nodes : new.nodes ≡ old.nodes ++ added
  edges : new.edges ≡ old.edges ++ edge ∷ []
  drawn : IsDrawnOf new.nodes flat edge

abbrev edge_in : FlatEdgeForm → List (List ℕ) → Edge
edge_in e both = record { from = node_number e.from both; action = e.action; to = node_number e.to both }

abbrev graph_in : GraphForm → FlatEdgeForm → List (List ℕ) → GraphForm
graph_in old e both = record { nodes = both; edges = old.edges ++ edge_in e both ∷ [] }

abbrev graph_of : OrRefused GraphForm → GraphForm
graph_of (Ok g) = g
graph_of (Err e) = no_graph

edge_given : (old new : GraphForm) (e : FlatEdgeForm) → with_edge old e ≡ Ok new → IsOneMore old new e
unfolding with_edge
edge_given old new e given =
    let a = both_ok (with_node e.from old.nodes) (λ left. with_node e.to left >>= λ both.
    refused_if (nat_le 16384 (length old.edges)) TooMany >>= λ u. Ok (graph_in old e both)) new given in
    let b = both_ok (with_node e.to a.0) (λ both. refused_if (nat_le 16384 (length old.edges)) TooMany >>= λ u.
    Ok (graph_in old e both)) new a.2 in
    let c = both_ok (refused_if (nat_le 16384 (length old.edges)) TooMany) (λ u. Ok (graph_in old e b.0)) new b.2 in
    let one = node_given e.from old.nodes a.0 a.1 in
    let two = node_given e.to a.0 b.0 b.1 in
    let from_there : slice_get a.0 (node_number e.from a.0) ≡ Some e.from = among_at e.from a.0 one.among in
    subst (λ g. IsOneMore old g e) (ap graph_of c.2)
    (record {
      added = one.added ++ two.added;
      edge = edge_in e b.0;
      nodes = two.is ∙ ap (λ ns. ns ++ two.added) one.is ∙ append_assoc old.nodes one.added two.added;
      edges = refl;
      drawn = record {
        from = among_at e.from b.0
            (subst (λ ns. is_among ns e.from ≡ true) (sym two.is) (among_kept e.from a.0 two.added one.among));
        to = among_at e.to b.0 two.among;
      };
    })
  where
    among_kept : (name : List ℕ) (nodes more : List (List ℕ)) → is_among nodes name ≡ true
        → is_among (nodes ++ more) name ≡ true
    among_kept name [] more among = cc
    among_kept name (x ∷ nodes) more among = elim (cases_Bool (bytes_eq name x)) [
      | inl is ↦ rw is refl
      | inr other ↦ rw other (among_kept name nodes more (rw other at among))
    ]

record AreMore (old new : GraphForm) (flat : List FlatEdgeForm) : Type 0 where
  added : List (List ℕ)
  more : List Edge
  nodes : new.nodes ≡ old.nodes ++ added
  edges : new.edges ≡ old.edges ++ more
  drawn : AllZip (IsDrawnOf new.nodes) flat more

all_given : (es : List FlatEdgeForm) (old new : GraphForm) → one_by_one with_edge old es ≡ Ok new
    → AreMore old new es
all_given [] old new given =
    let same : old ≡ new = ap graph_of given in
    record {
      added = [];
      more = [];
      nodes = ap (λ (g : GraphForm). g.nodes) (sym same) ∙ sym (append-nil old.nodes);
      edges = ap (λ (g : GraphForm). g.edges) (sym same) ∙ sym (append-nil old.edges);
      drawn = tt;
    }
all_given (e ∷ es) old new given =
    let step = both_ok (with_edge old e) (λ t. one_by_one with_edge t es) new given in
    let one = edge_given old step.0 e step.1 in
    let others = all_given es step.0 new step.2 in
    record {
      added = one.added ++ others.added;
      more = one.edge ∷ others.more;
      nodes = others.nodes ∙ ap (λ ns. ns ++ others.added) one.nodes
          ∙ append_assoc old.nodes one.added others.added;
      edges = others.edges ∙ ap (λ ds. ds ++ others.more) one.edges
          ∙ append_assoc old.edges (one.edge ∷ []) others.more;
      drawn = (
        record {
          from = subst (λ ns. slice_get ns one.edge.from ≡ Some e.from) (sym others.nodes)
              (still_at step.0.nodes others.added one.edge.from e.from one.drawn.from);
          to = subst (λ ns. slice_get ns one.edge.to ≡ Some e.to) (sym others.nodes)
              (still_at step.0.nodes others.added one.edge.to e.to one.drawn.to);
        },
        others.drawn,
      );
    }

pub drawn_edges : (es : List FlatEdgeForm) (g : GraphForm) → graph es ≡ Ok g → AllZip (IsDrawnOf g.nodes) es g.edges
drawn_edges [] g given = cc
drawn_edges (e ∷ es) g given =
    let all = all_given (e ∷ es) no_graph g given in
    subst (AllZip (IsDrawnOf g.nodes) (e ∷ es)) (sym all.edges) all.drawn
