-- The nodes and edges that resolution gives.
use Rattle.std.proofs.Common.{◌≡◌, ◌≢◌, ℕ, zero, suc, ◌+◌, ◌<◌, ◌≤◌, Bool, true, false, not, ◌||◌, get_or}
use Rattle.std.proofs.Common.{List, [], ◌∷◌, ◌++◌, length, refl, sym, subst, ◌∙◌, arith, length-append, Ok}
use Rattle.std.proofs.Common.{Err, cond}
use Rattle.std.specs.Prelude.{All, AllPairs, nat_le}
use Rattle.std.specs.Str.{bytes_eq}
use Rattle.std.proofs.lemmas.Bool.{leb-false, or_parts, or_left, or_right, true≢false, false≢true}
use Rattle.std.proofs.lemmas.List.Elements.{All-push, All-weaker, All-nil}
use Rattle.std.proofs.lemmas.List.Quantifiers.{all_pairs_push}
use Rattle.std.proofs.lemmas.Slice.Eq.{bytes_eq-Decides}
use Rattle.tv_model.specs.declared.program.Edge.{Edge}
use Rattle.tv_model.specs.Spelling.{IsWord}
use Rattle.tv_flat.specs.FlatForm.{FlatEdgeForm, IsFlatEdge}
use Rattle.tv_names.specs.declared.refusal.ResolveError.TheVariants.{TooMany, NoEdge}
use Rattle.tv_names.specs.Refusal.{◌>>=◌, refused_if, one_by_one}
use Rattle.tv_tree.specs.Names.{is_among}
use Rattle.tv_vocab.specs.Graph.{GraphForm, with_node, node_number, with_edge, no_graph, graph}
use Rattle.tv_vocab.proofs.valid.Refusals.{ok_is, not_given, went, not_refused, after_each}

pub record AreNodes (nodes : List (List ℕ)) : Type 0 where
  pub words : All IsWord nodes
  pub differ : AllPairs ◌≢◌ nodes
  pub count : length nodes ≤ 4096

absent : (name : List ℕ) (nodes : List (List ℕ)) → is_among nodes name ≡ false → (k : ℕ) (d : List ℕ) → k < length nodes → get_or nodes k d ≢ name
absent name [] h k d lt = absurd (omega arith)
absent name (x ∷ nodes) h zero d lt = λ same. true≢false (sym ((bytes_eq-Decides name x).1 (sym same)) ∙ (or_parts (bytes_eq name x) (is_among nodes name) h).0)
absent name (x ∷ nodes) h (suc k) d lt = absent name nodes (or_parts (bytes_eq name x) (is_among nodes name) h).1 k d (omega arith)

-- the nodes with one more, which is among them
record IsWith (name : List ℕ) (nodes more : List (List ℕ)) : Type 0 where
  are : AreNodes more
  longer : length nodes ≤ length more
  kept : (other : List ℕ) → is_among nodes other ≡ true → is_among more other ≡ true
  among : is_among more name ≡ true

or_either : (a b c : Bool) → (b ≡ true → c ≡ true) → (a || b) ≡ true → (a || c) ≡ true
or_either true b c f h = refl
or_either false b c f h = f h

among_push : (other name : List ℕ) (nodes : List (List ℕ)) → is_among nodes other ≡ true → is_among (nodes ++ name ∷ []) other ≡ true
among_push other name [] h = absurd (false≢true h)
among_push other name (x ∷ nodes) h = or_either (bytes_eq other x) (is_among nodes other) (is_among (nodes ++ name ∷ []) other) (among_push other name nodes) h

among_last : (name : List ℕ) (nodes : List (List ℕ)) → is_among (nodes ++ name ∷ []) name ≡ true
among_last name [] = or_left (bytes_eq name name) false ((bytes_eq-Decides name name).1 refl)
among_last name (x ∷ nodes) = or_right (bytes_eq name x) (is_among (nodes ++ name ∷ []) name) (among_last name nodes)

new_node : (name : List ℕ) (nodes more : List (List ℕ)) (b : Bool) → IsWord name → AreNodes nodes → is_among nodes name ≡ false → nat_le 4096 (length nodes) ≡ b → cond b (Err TooMany) (Ok (nodes ++ name ∷ [])) ≡ Ok more → IsWith name nodes more
new_node name nodes more true word are new full h = absurd (not_given TooMany more h)
new_node name nodes more false word are new full h =
    let room = leb-false 4096 (length nodes) full in
    let long = length-append nodes (name ∷ []) in
    subst (IsWith name nodes) (ok_is (nodes ++ name ∷ []) more h)
    (record {
      are = record {
        words = All-push IsWord nodes name are.words word;
        differ = all_pairs_push ◌≢◌ nodes name are.differ (absent name nodes new);
        count = omega (arith, long, room);
      };
      longer = omega (arith, long);
      kept = λ other k. among_push other name nodes k;
      among = among_last name nodes;
    })

node_by : (name : List ℕ) (nodes more : List (List ℕ)) (b : Bool) → IsWord name → AreNodes nodes → is_among nodes name ≡ b → cond b (Ok nodes) (cond (nat_le 4096 (length nodes)) (Err TooMany) (Ok (nodes ++ name ∷ []))) ≡ Ok more → IsWith name nodes more
node_by name nodes more true word are seen h =
    subst (IsWith name nodes) (ok_is nodes more h) (record { are = are; longer = omega arith; kept = λ other k. k; among = seen })
node_by name nodes more false word are new h = new_node name nodes more (nat_le 4096 (length nodes)) word are new refl h

node_given : (name : List ℕ) (nodes more : List (List ℕ)) → IsWord name → AreNodes nodes → with_node name nodes ≡ Ok more → IsWith name nodes more
unfolding with_node
node_given name nodes more word are h = node_by name nodes more (is_among nodes name) word are refl h

number_by : (name x : List ℕ) (nodes : List (List ℕ)) (b : Bool) → (is_among nodes name ≡ true → node_number name nodes < length nodes) → bytes_eq name x ≡ b → (b || is_among nodes name) ≡ true → cond (not b) (1 + node_number name nodes) 0 < length (x ∷ nodes)
number_by name x nodes true rest e h = omega arith
number_by name x nodes false rest e h = let lt = rest h in omega arith

number_within : (name : List ℕ) (nodes : List (List ℕ)) → is_among nodes name ≡ true → node_number name nodes < length nodes
number_within name [] h = absurd (false≢true h)
number_within name (x ∷ nodes) h = number_by name x nodes (bytes_eq name x) (number_within name nodes) refl h

pub record IsGraph (actions : ℕ) (g : GraphForm) : Type 0 where
  pub nodes : AreNodes g.nodes
  pub edges : All (λ e. (e.from < length g.nodes) × (e.to < length g.nodes) × (e.action < actions)) g.edges
  pub count : length g.edges ≤ 16384

abbrev Drawn : ℕ → ℕ → Edge → Type 0
Drawn actions nodes e = (e.from < nodes) × (e.to < nodes) × (e.action < actions)

drawn_longer : (actions m n : ℕ) → m ≤ n → (e : Edge) → Drawn actions m e → Drawn actions n e
drawn_longer actions m n le e h = let a = h.0 in let b = h.1 in (omega arith, omega arith, h.2)

edge_given : (actions : ℕ) (s t : GraphForm) (e : FlatEdgeForm) → IsFlatEdge actions e → IsGraph actions s → with_edge s e ≡ Ok t → IsGraph actions t
unfolding with_edge
edge_given actions s t e flat are h =
    let a = went (with_node e.from s.nodes) (λ left. with_node e.to left >>= λ both. refused_if (nat_le 16384 (length s.edges)) TooMany >>= λ u. Ok (record { nodes = both; edges = s.edges ++ record { from = node_number e.from both; action = e.action; to = node_number e.to both } ∷ [] })) t h in
    let b = went (with_node e.to a.x) (λ both. refused_if (nat_le 16384 (length s.edges)) TooMany >>= λ u. Ok (record { nodes = both; edges = s.edges ++ record { from = node_number e.from both; action = e.action; to = node_number e.to both } ∷ [] })) t a.rest in
    let c = went (refused_if (nat_le 16384 (length s.edges)) TooMany) (λ u. Ok (record { nodes = b.x; edges = s.edges ++ record { from = node_number e.from b.x; action = e.action; to = node_number e.to b.x } ∷ [] })) t b.rest in
    let one = node_given e.from s.nodes a.x flat.0 are.nodes a.gave in
    let two = node_given e.to a.x b.x flat.2 one.are b.gave in
    let le1 = one.longer in
    let le2 = two.longer in
    let longer : length s.nodes ≤ length b.x = omega (arith, le1, le2) in
    let edge : Edge = record { from = node_number e.from b.x; action = e.action; to = node_number e.to b.x } in
    let room = leb-false 16384 (length s.edges) (not_refused (nat_le 16384 (length s.edges)) TooMany c.x c.gave) in
    subst (IsGraph actions) (ok_is (record { nodes = b.x; edges = s.edges ++ edge ∷ [] }) t c.rest)
    (record {
      nodes = two.are;
      edges = All-push (Drawn actions (length b.x)) s.edges edge
          (All-weaker (Drawn actions (length s.nodes)) (Drawn actions (length b.x)) (drawn_longer actions (length s.nodes) (length b.x) longer) s.edges are.edges)
          (number_within e.from b.x (two.kept e.from one.among), number_within e.to b.x two.among, flat.1);
      count = omega (arith, length-append s.edges (edge ∷ []), room);
    })

no_graph_is : (actions : ℕ) → IsGraph actions no_graph
no_graph_is actions = record {
  nodes = record { words = All-nil IsWord; differ = λ i j d less lt. absurd (omega arith); count = omega arith };
  edges = All-nil (Drawn actions 0);
  count = omega arith;
}

pub graph_given : (actions : ℕ) (es : List FlatEdgeForm) (g : GraphForm) → All (IsFlatEdge actions) es → graph es ≡ Ok g → IsGraph actions g
graph_given actions [] g flat h = absurd (not_given NoEdge g h)
graph_given actions (e ∷ es) g flat h =
    after_each with_edge (IsGraph actions) (IsFlatEdge actions) (λ s t x q here given. edge_given actions s t x q here given) (e ∷ es) no_graph g flat (no_graph_is actions) h

-- ---- there is an edge

edges_more : (s t : GraphForm) (e : FlatEdgeForm) → with_edge s e ≡ Ok t → 0 < length t.edges
unfolding with_edge
edges_more s t e h =
    let a = went (with_node e.from s.nodes) (λ left. with_node e.to left >>= λ both. refused_if (nat_le 16384 (length s.edges)) TooMany >>= λ u. Ok (record { nodes = both; edges = s.edges ++ record { from = node_number e.from both; action = e.action; to = node_number e.to both } ∷ [] })) t h in
    let b = went (with_node e.to a.x) (λ both. refused_if (nat_le 16384 (length s.edges)) TooMany >>= λ u. Ok (record { nodes = both; edges = s.edges ++ record { from = node_number e.from both; action = e.action; to = node_number e.to both } ∷ [] })) t a.rest in
    let c = went (refused_if (nat_le 16384 (length s.edges)) TooMany) (λ u. Ok (record { nodes = b.x; edges = s.edges ++ record { from = node_number e.from b.x; action = e.action; to = node_number e.to b.x } ∷ [] })) t b.rest in
    let edge : Edge = record { from = node_number e.from b.x; action = e.action; to = node_number e.to b.x } in
    subst (λ (g : GraphForm). 0 < length g.edges) (ok_is (record { nodes = b.x; edges = s.edges ++ edge ∷ [] }) t c.rest)
    (omega (arith, length-append s.edges (edge ∷ [])))

pub some_edge : (es : List FlatEdgeForm) (g : GraphForm) → graph es ≡ Ok g → 0 < length g.edges
some_edge [] g h = absurd (not_given NoEdge g h)
some_edge (e ∷ es) g h =
    let a = went (with_edge no_graph e) (λ t. one_by_one with_edge t es) g h in
    after_each with_edge (λ t. 0 < length t.edges) (λ x. Unit {0}) (λ s t x q here given. edges_more s t x given) es a.x g (λ k d lt. tt) (edges_more no_graph a.x e a.gave) a.rest
