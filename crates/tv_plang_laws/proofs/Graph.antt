-- Edges of a compiled program: those of the statements that are left, and their nodes.
use Rattle.std.proofs.Common.{ℕ, ◌≡◌, ◌+◌, ◌∙◌, zero, suc, List, [], ◌∷◌, ◌++◌, map, Some, slice_get, ⊎_elim}
use Rattle.std.proofs.Common.{refl, sym, ap, subst, arith, append_assoc, Contains}
use Rattle.std.specs.List.{flat_map, position_or_len}
use Rattle.std.specs.Prelude.{◌==◌}
use Rattle.tv_model.specs.Valid.{first_occurrences}
use Rattle.tv_model.specs.declared.program.Edge.{Edge}
use Rattle.tv_model.proofs.Lists.{Contains-here, Contains-there, Contains-cases, Contains-none}
use Rattle.tv_source.specs.Forms.{SAssign, SIf, SWhile, Stmts, no_stmts, with_stmt, SourceForm}
use Rattle.tv_source.specs.Valid.{IsStmtOf, AreStmtsOf, HasStmts}
use Rattle.tv_plang_laws.specs.Compiled.{Arc, arcs, block_arcs, edges_between, ends, entry, node_at}
use Rattle.tv_plang_laws.specs.Compiled.{program_arcs, node_positions}
use Rattle.tv_plang_laws.specs.Positions.{Numbered, numbered, count, last}
use Rattle.tv_plang_laws.specs.Steps.{first_number}

-- ---- what is left

-- the edges of the statements that are left
abbrev pub left_arcs : SourceForm → List Numbered → List Arc
left_arcs p [] = []
left_arcs p (n ∷ behind) = arcs p n.number n.statement (first_number behind (last p)) ++ left_arcs p behind

-- control enters the front of what is left
pub entry-front : (k : ℕ) (body : Stmts) (behind : List Numbered) (end : ℕ)
    → first_number (numbered k body behind) end ≡ entry k body (first_number behind end)
entry-front k no_stmts behind end = refl
entry-front k (with_stmt s more) behind end = refl

-- the edges of a block and of what is left behind it
pub left-of_block : (p : SourceForm) (k : ℕ) (body : Stmts) (behind : List Numbered)
    → left_arcs p (numbered k body behind) ≡ block_arcs p k body (first_number behind (last p)) ++ left_arcs p behind
left-of_block p k no_stmts behind = refl
left-of_block p k (with_stmt s more) behind =
    let end : ℕ = first_number behind (last p)
    in let next : ℕ = k + count s
    in ap (λ to. arcs p k s to ++ left_arcs p (numbered next more behind)) (entry-front next more behind (last p))
    ∙ ap (λ later. arcs p k s (entry next more end) ++ later) (left-of_block p next more behind)
    ∙ sym (append_assoc (arcs p k s (entry next more end)) (block_arcs p next more end) (left_arcs p behind))

-- the statements that are left are the program's
abbrev pub AreLeftOf : SourceForm → List Numbered → Type 0
AreLeftOf p [] = Unit {0}
AreLeftOf p (n ∷ behind) = IsStmtOf p n.statement × AreLeftOf p behind

pub left-declared : (p : SourceForm) (k : ℕ) (body : Stmts) (behind : List Numbered) → AreStmtsOf p body → AreLeftOf p behind
    → AreLeftOf p (numbered k body behind)
left-declared p k no_stmts behind declared left = left
left-declared p k (with_stmt s more) behind declared left = (declared.0, left-declared p (k + count s) more behind declared.1 left)

-- what is left is declared, and its edges are the program's
pub record Fits (p : SourceForm) (left : List Numbered) : Type 0 where
  pub declared : AreLeftOf p left
  pub among : (a : Arc) → Contains (left_arcs p left) a → Contains (program_arcs p) a

-- ---- edges

-- the edge of an arc among those from which edges are made
pub record HasEdge (p : SourceForm) (i : ℕ) (all : List Arc) (a : Arc) : Type 0 where
  pub edge : Edge
  pub place : ℕ
  pub its_place : slice_get (edges_between (node_positions p) i all) place ≡ Some edge
  pub among : Contains (edges_between (node_positions p) i all) edge
  pub from : edge.from ≡ node_at p a.from
  pub to : edge.to ≡ node_at p a.to
  pub numbered : edge.action ≡ i + place
  pub found : slice_get all place ≡ Some a

pub has-edge : (p : SourceForm) (i : ℕ) (all : List Arc) (a : Arc) → Contains all a → HasEdge p i all a
has-edge p i [] a at = absurd (Contains-none a at)
has-edge p i (b ∷ all) a at =
    ⊎_elim
    (λ e. let Of : Arc → Type 0 = λ c. HasEdge p i (b ∷ all) c
    in let here : Edge = record { from = node_at p b.from; action = i; to = node_at p b.to }
    in let has : HasEdge p i (b ∷ all) b = record {
      edge = here;
      place = 0;
      its_place = refl;
      among = Contains-here here (edges_between (node_positions p) (i + 1) all);
      from = refl;
      to = refl;
      numbered = omega arith;
      found = refl;
    }
    in subst Of e has)
    (λ there. let later : HasEdge p (i + 1) all a = has-edge p (i + 1) all a there
    in let here : Edge = record { from = node_at p b.from; action = i; to = node_at p b.to }
    in record {
      edge = later.edge;
      place = suc later.place;
      its_place = later.its_place;
      among = Contains-there here later.edge (edges_between (node_positions p) (i + 1) all) later.among;
      from = later.from;
      to = later.to;
      numbered = omega (arith, later.numbered);
      found = later.found;
    })
    (Contains-cases b a all at)

-- an edge's action is that of its arc
pub edge-action : (all : List Arc) (i : ℕ) (a : Arc) → slice_get all i ≡ Some a → slice_get (map (λ (b : Arc). b.action) all) i ≡ Some a.action
edge-action [] i a found = absurd (cc found)
edge-action (b ∷ all) zero a found = ap (λ (c : Arc). Some c.action) (some-same b a found)
  where
    some-same : (x y : Arc) → Some x ≡ Some y → x ≡ y
    some-same x y e = cc e
edge-action (b ∷ all) (suc i) a found = edge-action all i a found

-- ---- the start

-- a program's first edge leaves position 0, so its node is the first
pub start-node : (p : SourceForm) (body : Stmts) (end : ℕ) → HasStmts body
    → position_or_len (λ m. m == 0) (first_occurrences (flat_map ends (block_arcs p 0 body end))) ≡ 0
start-node p no_stmts end some = absurd some
start-node p (with_stmt (SAssign a) more) end some = refl
start-node p (with_stmt (SIf t then_ else_) more) end some = refl
start-node p (with_stmt (SWhile t body) more) end some = refl

pub start-position : (body : Stmts) (end : ℕ) → HasStmts body → first_number (numbered 0 body []) end ≡ 0
start-position no_stmts end some = absurd some
start-position (with_stmt s more) end some = refl
