-- A compiled program is valid within the limits.
use Rattle.std.proofs.Common.{ℕ, ◌≡◌, ◌≢◌, ◌≤◌, ◌<◌, ◌+◌, ◌^◌, ◌∙◌, List, [], ◌∷◌, ◌++◌, length, map, true}
use Rattle.std.proofs.Common.{false, cond, ltb, Some, inl, inr, ⊎_elim, refl, sym, ap, subst, arith, All}
use Rattle.std.proofs.Common.{Contains, length-append}
use Rattle.std.specs.List.{flat_map}
use Rattle.std.proofs.lemmas.Bool.{cond-true, cond-false, lt-ltb, le-ltb}
use Rattle.std.proofs.lemmas.List.{length-map}
use Rattle.std.proofs.lemmas.List.Elements.{All-nil, All-map, Contains-append_cases}
use Rattle.std.proofs.lemmas.Option.{slice_get-get_or}
use Rattle.tv_model.specs.Form.{Form, FZero, FExists, FAnd, Mentions}
use Rattle.tv_model.specs.Program.{PredForm, KindForm, KCore, KDefined}
use Rattle.tv_model.specs.Valid.{AreProperties, IsAction, IsEdge, IsPlainFormula, IsOver, IsPred, IsRank}
use Rattle.tv_model.specs.Valid.{IsRule}
use Rattle.tv_model.specs.Spelling.{IsWord}
use Rattle.tv_model.specs.declared.program.Edge.{Edge}
use Rattle.tv_model.proofs.Lists.{All-from_contains, Contains-cases, Contains-flat_map}
use Rattle.tv_model.proofs.Lists.{Contains-flat_map_back, Contains-here, Contains-none, Contains-there}
use Rattle.tv_model.proofs.Parts.{first-occurs}
use Rattle.tv_source.specs.Forms.{SourceForm, Stmt, SAssign, SIf, SWhile, Stmts, no_stmts, with_stmt}
use Rattle.tv_source.specs.Valid.{AreStmtsOf, HasStmts, IsDeclarable, IsFieldOf, IsSource, IsStmtOf}
use Rattle.tv_source.specs.Valid.{IsVariableOf}
use Rattle.tv_plang_laws.specs.Compiled.{Arc, arcs, assign_action, block_arcs, compiled, compiled_preds}
use Rattle.tv_plang_laws.specs.Compiled.{edges_between, ends, entry, field_pred, leads_on, node_at, node_name}
use Rattle.tv_plang_laws.specs.Compiled.{node_positions, points, program_arcs, test_action, variable_pred}
use Rattle.tv_plang_laws.specs.Laws.{CompiledIsValid}
use Rattle.tv_plang_laws.specs.Positions.{count, count_all, last}
use Rattle.tv_plang_laws.proofs.Formulas.{assign-valid, leads-formula, one-own, points-formula, test-valid}
use Rattle.tv_plang_laws.proofs.Names.{declared-name, names-apart, node-apart, node-is_word, reach-is_name}
use Rattle.tv_plang_laws.proofs.Names.{reach-not_new, reach-not_sm}
use Rattle.tv_plang_laws.proofs.Pairs.{occurrences-among, occurrences-differ, pairs-map}
use Rattle.tv_plang_laws.proofs.Pairs.{pairs-weaker, place-below}
use Rattle.tv_plang_laws.proofs.Predicates.{PredAt, of_variable, of_field, of_reach, pred-at}

-- ---- predicates

reach-over : (p : SourceForm) (f x : ℕ) → IsOver (0 ∷ []) (FExists 1 (FAnd (points x 1) (leads_on p f 1 0)))
reach-over p f x v (ne, inl free) = absurd (⊎_elim (λ e. ne (sym e)) (λ none. Contains-none v none) (Contains-cases 1 v [] free))
reach-over p f x v (ne, inr (inl (inl e))) = absurd (ne e)
reach-over p f x v (ne, inr (inl (inr e))) = let In : ℕ → Type 0 = λ u. Contains (0 ∷ []) u in subst In (sym e) (Contains-here 0 [])
reach-over p f x v (ne, inr (inr (inl e))) = absurd (ne e)
reach-over p f x v (ne, inr (inr (inr (inl e)))) = let In : ℕ → Type 0 = λ u. Contains (0 ∷ []) u in subst In (sym e) (Contains-here 0 [])
reach-over p f x v (ne, inr (inr (inr (inr inner)))) =
    absurd (⊎_elim (λ e. inner.0 (sym e))
    (λ there. ⊎_elim (λ e. inner.1 (sym e)) (λ none. Contains-none v none) (Contains-cases 3 v [] there))
    (Contains-cases 2 v (3 ∷ []) inner.2))

reach-plain : (p : SourceForm) (f x : ℕ) → IsFieldOf p f → IsVariableOf p x
    → IsPlainFormula (compiled p) (FExists 1 (FAnd (points x 1) (leads_on p f 1 0)))
reach-plain p f x f_declared x_declared = (
  (
    omega arith,
    (
      points-formula p x 1 x_declared (omega arith),
      (
        (omega arith, omega arith),
        (omega arith, omega arith, omega arith, omega arith, (λ e. omega (arith, e)), leads-formula p f 2 3 f_declared (omega arith) (omega arith)),
      ),
    ),
  ),
  λ named. ⊎_elim (λ n. n) (λ n. ⊎_elim (λ m. m) (λ m. m) n) named,
)

unique-only : AreProperties 1 (variable_pred []).props
unique-only = record {
  unique = λ t. refl;
  function = λ t. absurd (cc t);
  invfunction = λ t. absurd (cc t);
  transitive = λ t. absurd (cc t);
  reflexive = λ t. absurd (cc t);
  symmetric = λ t. absurd (cc t);
}

function-only : AreProperties 2 (field_pred []).props
function-only = record {
  unique = λ t. absurd (cc t);
  function = λ t. refl;
  invfunction = λ t. absurd (cc t);
  transitive = λ t. absurd (cc t);
  reflexive = λ t. absurd (cc t);
  symmetric = λ t. absurd (cc t);
}

is-pred : (p : SourceForm) → IsSource p → (q : ℕ) (d : PredForm) → PredAt p q d → IsPred (compiled p) d
is-pred p valid q d (of_variable declared name among e) =
    let named : IsDeclarable name = declared-name p valid name (inl among)
    in subst (IsPred (compiled p)) (sym e) (record { name = (inl named.0, named.1, named.2); arity = omega arith; kind = tt; props = unique-only })
is-pred p valid q d (of_field f declared number name among e) =
    let named : IsDeclarable name = declared-name p valid name (inr among)
    in subst (IsPred (compiled p)) (sym e) (record { name = (inl named.0, named.1, named.2); arity = omega arith; kind = tt; props = function-only })
is-pred p valid q d (of_reach f x f_declared x_declared behind e) =
    subst (IsPred (compiled p)) (sym e)
    (record {
      name = (reach-is_name p valid f x f_declared x_declared, reach-not_sm p f x, reach-not_new p f x);
      arity = omega arith;
      kind = (one-own, reach-plain p f x f_declared x_declared, reach-over p f x);
      props = record {
        unique = λ t. absurd (cc t);
        function = λ t. absurd (cc t);
        invfunction = λ t. absurd (cc t);
        transitive = λ t. absurd (cc t);
        reflexive = λ t. absurd (cc t);
        symmetric = λ t. absurd (cc t);
      };
    })

are-preds : (p : SourceForm) → IsSource p → All (IsPred (compiled p)) (compiled_preds p)
are-preds p valid =
    All-from_contains (IsPred (compiled p)) (compiled_preds p)
    (λ d at. is-pred p valid at.0 d (pred-at p at.0 d (slice_get-get_or (compiled_preds p) at.0 d at.1 ∙ ap (λ (c : PredForm). Some c) at.2)))

abbrev body_of : KindForm → Form
body_of KCore = FZero
body_of (KDefined vars body) = body

-- definitions mention core predicates alone
abbrev rank_of : SourceForm → ℕ → ℕ
rank_of p q = cond (ltb q (length p.variables + length p.fields)) 0 1

falls : (p : SourceForm) (q r : ℕ) → length p.variables + length p.fields ≤ q → r < length p.variables + length p.fields → rank_of p r < rank_of p q
falls p q r behind below =
    let low : rank_of p r ≡ 0 = cond-true (ltb r (length p.variables + length p.fields)) 0 1 (lt-ltb r (length p.variables + length p.fields) below)
    in let high : rank_of p q ≡ 1 = cond-false (ltb q (length p.variables + length p.fields)) 0 1 (le-ltb q (length p.variables + length p.fields) behind)
    in omega (arith, low, high)

mentioned-low : (p : SourceForm) (f x r : ℕ) → IsFieldOf p f → IsVariableOf p x → Mentions r (FExists 1 (FAnd (points x 1) (leads_on p f 1 0)))
    → r < length p.variables + length p.fields
mentioned-low p f x r f_declared x_declared (inl e) = omega (arith, e, x_declared)
mentioned-low p f x r f_declared x_declared (inr (inl none)) = absurd none
mentioned-low p f x r f_declared x_declared (inr (inr e)) = omega (arith, e, f_declared)

no-cycle : (p : SourceForm) → IsRank (compiled p) (rank_of p)
no-cycle p = record { falls = λ q d found vars body defined r mentions. at q d (pred-at p q d found) vars body defined r mentions }
  where
    at : (q : ℕ) (d : PredForm) → PredAt p q d → (vars : List ℕ) (body : Form) → d.kind ≡ KDefined vars body → (r : ℕ) → Mentions r body
        → rank_of p r < rank_of p q
    at q d (of_variable declared name among e) vars body defined r mentions = absurd (cc (sym (ap (λ (c : PredForm). c.kind) e) ∙ defined))
    at q d (of_field f declared number name among e) vars body defined r mentions = absurd (cc (sym (ap (λ (c : PredForm). c.kind) e) ∙ defined))
    at q d (of_reach f x f_declared x_declared behind e) vars body defined r mentions =
        let same : FExists 1 (FAnd (points x 1) (leads_on p f 1 0)) ≡ body = ap body_of (sym (ap (λ (c : PredForm). c.kind) e) ∙ defined)
        in falls p q r behind (mentioned-low p f x r f_declared x_declared (subst (Mentions r) (sym same) mentions))

-- ---- edges

-- what each arc of the program is, where positions are at most N
record IsArcOf (p : SourceForm) (N : ℕ) (a : Arc) : Type 0 where
  action : IsAction (compiled p) a.action
  from : a.from ≤ N
  to : a.to ≤ N

entry-within : (N k : ℕ) (body : Stmts) (behind : ℕ) → k + count_all body ≤ N → behind ≤ N → entry k body behind ≤ N
entry-within N k no_stmts behind fits end = end
entry-within N k (with_stmt s more) behind fits end = omega (arith, fits)

mutual
  stmt-arcs : (p : SourceForm) → IsSource p → (N k : ℕ) (s : Stmt) (behind : ℕ) → IsStmtOf p s → k + count s ≤ N → behind ≤ N
      → (a : Arc) → Contains (arcs p k s behind) a → IsArcOf p N a
  stmt-arcs p valid N k (SAssign s) behind declared fits end a at =
      ⊎_elim
      (λ e. subst (IsArcOf p N) e (record { action = assign-valid p valid s declared; from = omega (arith, fits); to = end }))
      (λ none. absurd (Contains-none a none))
      (Contains-cases (record { from = k; action = assign_action p s; to = behind }) a [] at)
  stmt-arcs p valid N k (SIf t then_ else_) behind declared fits end a at =
      let else_at : ℕ = k + 1 + count_all then_
      in let yes_arc : Arc = record { from = k; action = test_action true t; to = entry (k + 1) then_ behind }
      in let no_arc : Arc = record { from = k; action = test_action false t; to = entry else_at else_ behind }
      in let then_arcs : List Arc = block_arcs p (k + 1) then_ behind
      in let else_arcs : List Arc = block_arcs p else_at else_ behind
      in let then_fits : k + 1 + count_all then_ ≤ N = omega (arith, fits)
      in let else_fits : else_at + count_all else_ ≤ N = omega (arith, fits)
      in ⊎_elim
      (λ e. subst (IsArcOf p N) e (record {
        action = test-valid p true t declared.0;
        from = omega (arith, fits);
        to = entry-within N (k + 1) then_ behind then_fits end;
      }))
      (λ later. ⊎_elim
      (λ e. subst (IsArcOf p N) e (record {
        action = test-valid p false t declared.0;
        from = omega (arith, fits);
        to = entry-within N else_at else_ behind else_fits end;
      }))
      (λ inner. ⊎_elim
      (λ in_then. block-arcs p valid N (k + 1) then_ behind declared.1 then_fits end a in_then)
      (λ in_else. block-arcs p valid N else_at else_ behind declared.2 else_fits end a in_else)
      (Contains-append_cases then_arcs else_arcs a inner))
      (Contains-cases no_arc a (then_arcs ++ else_arcs) later))
      (Contains-cases yes_arc a (no_arc ∷ (then_arcs ++ else_arcs)) at)
  stmt-arcs p valid N k (SWhile t body) behind declared fits end a at =
      let yes_arc : Arc = record { from = k; action = test_action true t; to = entry (k + 1) body k }
      in let no_arc : Arc = record { from = k; action = test_action false t; to = behind }
      in let body_arcs : List Arc = block_arcs p (k + 1) body k
      in let body_fits : k + 1 + count_all body ≤ N = omega (arith, fits)
      in let at_loop : k ≤ N = omega (arith, fits)
      in ⊎_elim
      (λ e. subst (IsArcOf p N) e (record {
        action = test-valid p true t declared.0;
        from = at_loop;
        to = entry-within N (k + 1) body k body_fits at_loop;
      }))
      (λ later. ⊎_elim
      (λ e. subst (IsArcOf p N) e (record { action = test-valid p false t declared.0; from = at_loop; to = end }))
      (λ inner. block-arcs p valid N (k + 1) body k declared.1 body_fits at_loop a inner)
      (Contains-cases no_arc a body_arcs later))
      (Contains-cases yes_arc a (no_arc ∷ body_arcs) at)

  block-arcs : (p : SourceForm) → IsSource p → (N k : ℕ) (body : Stmts) (behind : ℕ) → AreStmtsOf p body → k + count_all body ≤ N → behind ≤ N
      → (a : Arc) → Contains (block_arcs p k body behind) a → IsArcOf p N a
  block-arcs p valid N k no_stmts behind declared fits end a at = absurd (Contains-none a at)
  block-arcs p valid N k (with_stmt s more) behind declared fits end a at =
      let next : ℕ = k + count s
      in let later_fits : next + count_all more ≤ N = omega (arith, fits)
      in ⊎_elim
      (λ here. stmt-arcs p valid N k s (entry next more behind) declared.0 (omega (arith, fits)) (entry-within N next more behind later_fits end) a here)
      (λ later. block-arcs p valid N next more behind declared.1 later_fits end a later)
      (Contains-append_cases (arcs p k s (entry next more behind)) (block_arcs p next more behind) a at)

program-arc : (p : SourceForm) → IsSource p → (a : Arc) → Contains (program_arcs p) a → IsArcOf p (last p) a
program-arc p valid a at = block-arcs p valid (last p) 0 p.body (last p) valid.body (omega arith) (omega arith) a at

-- each statement has an edge
mutual
  pub stmt-count : (p : SourceForm) (k : ℕ) (s : Stmt) (behind : ℕ) → count s ≤ length (arcs p k s behind)
  stmt-count p k (SAssign s) behind = omega arith
  stmt-count p k (SIf t then_ else_) behind =
      let one = block-count p (k + 1) then_ behind
      in let two = block-count p (k + 1 + count_all then_) else_ behind
      in let joined = length-append (block_arcs p (k + 1) then_ behind) (block_arcs p (k + 1 + count_all then_) else_ behind)
      in omega (arith, one, two, joined)
  stmt-count p k (SWhile t body) behind = let one = block-count p (k + 1) body k in omega (arith, one)

  pub block-count : (p : SourceForm) (k : ℕ) (body : Stmts) (behind : ℕ) → count_all body ≤ length (block_arcs p k body behind)
  block-count p k no_stmts behind = omega arith
  block-count p k (with_stmt s more) behind =
      let next : ℕ = k + count s
      in let one = stmt-count p k s (entry next more behind)
      in let two = block-count p next more behind
      in let joined = length-append (arcs p k s (entry next more behind)) (block_arcs p next more behind)
      in omega (arith, one, two, joined)

pub edges-length : (p : SourceForm) (i : ℕ) (all : List Arc) → length (edges_between (node_positions p) i all) ≡ length all
edges-length p i [] = refl
edges-length p i (a ∷ all) = let later = edges-length p (i + 1) all in omega (arith, later)

-- the positions of arcs are those of nodes
position-listed : (p : SourceForm) (a : Arc) → Contains (program_arcs p) a → (k : ℕ) → Contains (ends a) k → node_at p k < length (node_positions p)
position-listed p a at k end =
    place-below k (node_positions p)
    (first-occurs (flat_map ends (program_arcs p)) k (Contains-flat_map ends (program_arcs p) a k at end))

edges-valid : (p : SourceForm) (n i : ℕ) (all : List Arc) → ((a : Arc) → Contains all a → (node_at p a.from < n) × (node_at p a.to < n))
    → (edge : Edge) → Contains (edges_between (node_positions p) i all) edge → (edge.from < n) × (edge.to < n) × (edge.action < i + length all)
edges-valid p n i [] each edge at = absurd (Contains-none edge at)
edges-valid p n i (a ∷ all) each edge at =
    let here : Edge = record { from = node_at p a.from; action = i; to = node_at p a.to }
    in let Is : Edge → Type 0 = λ e. (e.from < n) × (e.to < n) × (e.action < i + length (a ∷ all))
    in let ends_fit = each a (Contains-here a all)
    in ⊎_elim
    (λ e. subst Is e (ends_fit.0, ends_fit.1, omega arith))
    (λ there. let later = edges-valid p n (i + 1) all (λ b in_. each b (Contains-there a b all in_)) edge there
    in (later.0, later.1, omega (arith, later.2)))
    (Contains-cases here edge (edges_between (node_positions p) (i + 1) all) at)

-- ---- the program

some-edge : (p : SourceForm) (body : Stmts) (end : ℕ) → HasStmts body → 0 < length (edges_between (node_positions p) 0 (block_arcs p 0 body end))
some-edge p no_stmts end some = absurd some
some-edge p (with_stmt (SAssign a) more) end some = omega arith
some-edge p (with_stmt (SIf t then_ else_) more) end some = omega arith
some-edge p (with_stmt (SWhile t body) more) end some = omega arith

pub compiled_is_valid : CompiledIsValid
compiled_is_valid p valid small = record {
  preds = are-preds p valid;
  pred_names_differ = pairs-map ◌≢◌ (λ (d : PredForm). d.name) (compiled_preds p) (names-apart p valid);
  pred_count = small.preds;
  rank = rank_of p;
  no_cycle = no-cycle p;
  rules = All-nil (IsRule (compiled p));
  rule_count = omega arith;
  actions = All-map (IsAction (compiled p)) (λ (a : Arc). a.action) (program_arcs p)
      (All-from_contains (λ (a : Arc). IsAction (compiled p) a.action) (program_arcs p) (λ a at. (program-arc p valid a at).action));
  edges = All-from_contains (IsEdge (compiled p)) (edges_between (node_positions p) 0 (program_arcs p)) (λ edge at. edge-valid edge at);
  some_edge = some-edge p p.body (last p) valid.some;
  edge_count = small.edges;
  nodes = All-map IsWord (node_name (last p)) (node_positions p)
      (All-from_contains (λ k. IsWord (node_name (last p) k)) (node_positions p) (λ k at. node-is_word p k (small-position k at)));
  node_names_differ = pairs-map ◌≢◌ (node_name (last p)) (node_positions p)
      (pairs-weaker ◌≢◌ (λ j k. node_name (last p) j ≢ node_name (last p) k) (node_positions p)
      (λ j k at_j at_k ne e. ne (node-apart p j k (small-position j at_j) (small-position k at_k) e))
      (occurrences-differ (flat_map ends (program_arcs p))));
  node_count = small.nodes;
}
  where
    few : last p ≤ 16384
    few = omega (arith, small.edges, edges-length p 0 (program_arcs p), block-count p 0 p.body (last p))

    bounded : (k : ℕ) (a : Arc) → IsArcOf p (last p) a → Contains (ends a) k → k ≤ last p
    bounded k a is at =
        ⊎_elim (λ e. omega (arith, e, is.from))
        (λ there. ⊎_elim (λ e. omega (arith, e, is.to)) (λ none. absurd (Contains-none k none)) (Contains-cases a.to k [] there))
        (Contains-cases a.from k (a.to ∷ []) at)

    small-position : (k : ℕ) → Contains (node_positions p) k → k < 2 ^ 64
    small-position k at =
        let from = Contains-flat_map_back ends (program_arcs p) k (occurrences-among (flat_map ends (program_arcs p)) k at)
        in let below : k ≤ last p = bounded k from.0 (program-arc p valid from.0 from.1) from.2
        in omega (arith, below, few)

    edge-valid : (edge : Edge) → Contains (edges_between (node_positions p) 0 (program_arcs p)) edge → IsEdge (compiled p) edge
    edge-valid edge at =
        let names : length (map (node_name (last p)) (node_positions p)) ≡ length (node_positions p) = length-map (node_positions p) (node_name (last p))
        in let actions : length (map (λ (a : Arc). a.action) (program_arcs p)) ≡ length (program_arcs p)
        = length-map (program_arcs p) (λ (a : Arc). a.action)
        in let fits = edges-valid p (length (node_positions p)) 0 (program_arcs p)
        (λ a in_. (
          position-listed p a in_ a.from (Contains-here a.from (a.to ∷ [])),
          position-listed p a in_ a.to (Contains-there a.from a.to (a.to ∷ []) (Contains-here a.to [])),
        ))
        edge at
        in (omega (arith, fits.0, names), omega (arith, fits.1, names), omega (arith, fits.2, actions))
