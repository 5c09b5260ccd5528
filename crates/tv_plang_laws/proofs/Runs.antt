-- Runs of programs of the pointer language are runs of their compiled programs.
use Rattle.std.proofs.Common.{ℕ, zero, suc, slice_get, inl, inr, Some, ◌≡◌, ◌+◌, ◌∙◌, List, [], ◌∷◌, ◌++◌}
use Rattle.std.proofs.Common.{map, Bool, true, false, ⊎_elim, refl, sym, ap, subst, arith, append-nil}
use Rattle.std.proofs.Common.{Contains}
use Rattle.std.proofs.lemmas.List.Elements.{Contains-append_left, Contains-append_right}
use Rattle.std.proofs.lemmas.List.Elements.{Contains-append_cases}
use Rattle.tv_model.specs.Heap.{Heap}
use Rattle.tv_model.specs.Rules.{blank}
use Rattle.tv_model.specs.Run.{Brings, BringsFrom, Stage, GoesOn}
use Rattle.tv_model.specs.Step.{FairStep, FairlySteps}
use Rattle.tv_model.specs.declared.program.Mode.{Mode}
use Rattle.tv_model.proofs.Lists.{Contains-here, Contains-there}
use Rattle.tv_source.specs.Forms.{TestForm, Stmt, SAssign, SIf, SWhile, Stmts, SourceForm}
use Rattle.tv_source.specs.Valid.{IsSource, IsTestOf, AreStmtsOf}
use Rattle.tv_plang_laws.specs.Compiled.{Arc, arcs, assign_action, block_arcs, compiled, entry, node_at}
use Rattle.tv_plang_laws.specs.Compiled.{program_arcs, test_action}
use Rattle.tv_plang_laws.specs.Heaps.{IsHeapOfMemory}
use Rattle.tv_plang_laws.specs.Laws.{AreHeapsOf, AreStagesOf, SourceRunsAreRuns}
use Rattle.tv_plang_laws.specs.Memories.{Memory, GoesWay}
use Rattle.tv_plang_laws.specs.Positions.{Numbered, numbered, count_all, last}
use Rattle.tv_plang_laws.specs.Steps.{State, GoThrough, Performs, StepsFrom, first_number, position}
use Rattle.tv_plang_laws.proofs.Assigned.{assign-steps, test-steps}
use Rattle.tv_plang_laws.proofs.Graph.{Fits, HasEdge, edge-action, entry-front, has-edge, left-declared}
use Rattle.tv_plang_laws.proofs.Graph.{left-of_block, left_arcs, start-node, start-position}
use Rattle.tv_plang_laws.proofs.Truths.{meets}

-- ---- one step

-- a step takes an edge of the program from its position to the next, fairly from any heap of the one memory to any of the other
pub record Takes (p : SourceForm) (number : ℕ) (m : Memory) (t : State) : Type 0 where
  pub arc : Arc
  pub among : Contains (program_arcs p) arc
  pub from : arc.from ≡ number
  pub to : arc.to ≡ first_number t.left (last p)
  pub fair : (mode : Mode) (h k : Heap) → IsHeapOfMemory p m h → IsHeapOfMemory p t.memory k
      → FairlySteps (compiled p) mode arc.action blank h k
  pub fits : Fits p t.left

-- what is left behind a statement fits
fits-behind : (p : SourceForm) (n : Numbered) (behind : List Numbered) → Fits p (n ∷ behind) → Fits p behind
fits-behind p n behind fits = record {
  declared = fits.declared.1;
  among = λ a at. fits.among a (Contains-append_right (arcs p n.number n.statement (first_number behind (last p))) (left_arcs p behind) a at);
}

-- a block whose edges are the program's fits in front of what fits
fits-block : (p : SourceForm) (k : ℕ) (body : Stmts) (behind : List Numbered) → AreStmtsOf p body → Fits p behind
    → ((a : Arc) → Contains (block_arcs p k body (first_number behind (last p))) a → Contains (program_arcs p) a)
    → Fits p (numbered k body behind)
fits-block p k body behind declared fits within = record {
  declared = left-declared p k body behind declared fits.declared;
  among = λ a at.
      let In : List Arc → Type 0 = λ all. Contains all a
      in ⊎_elim (λ here. within a here) (λ later. fits.among a later)
      (Contains-append_cases (block_arcs p k body (first_number behind (last p))) (left_arcs p behind) a
      (subst In (left-of_block p k body behind) at));
}

-- the edges of the first statement that is left are the program's
pub first-among : (p : SourceForm) (n : Numbered) (behind : List Numbered) → Fits p (n ∷ behind) → (a : Arc)
    → Contains (arcs p n.number n.statement (first_number behind (last p))) a → Contains (program_arcs p) a
first-among p n behind fits a at =
    fits.among a (Contains-append_left (arcs p n.number n.statement (first_number behind (last p))) (left_arcs p behind) a at)

-- an edge of a test is taken
takes-test : (p : SourceForm) (m : Memory) (t : State) (way : Bool) (test : TestForm) → IsTestOf p test → GoesWay way test m → t.memory ≡ m → (from to : ℕ) (left : List Numbered)
    → Contains (program_arcs p) (record { from = from; action = test_action way test; to = to }) → to ≡ first_number left (last p)
    → Fits p left → t.left ≡ left → Takes p from m t
takes-test p m t way test declared goes e from to left among leads fits e_left = record {
  arc = record { from = from; action = test_action way test; to = to };
  among = among;
  from = refl;
  to = leads ∙ ap (λ l. first_number l (last p)) (sym e_left);
  fair = λ mode h k is becomes. test-steps p mode m t.memory h k is becomes way test declared goes e;
  fits = subst (Fits p) (sym e_left) fits;
}

takes : (p : SourceForm) (number : ℕ) (s : Stmt) (behind : List Numbered) (m : Memory) (t : State)
    → Fits p (record { number = number; statement = s } ∷ behind)
    → Performs number s behind m t → Takes p number m t
takes p number (SAssign a) behind m t fits (does, e) =
    let end : ℕ = first_number behind (last p)
    in let arc : Arc = record { from = number; action = assign_action p a; to = end }
    in record {
      arc = arc;
      among = first-among p (record { number = number; statement = SAssign a }) behind fits arc (Contains-here arc []);
      from = refl;
      to = ap (λ l. first_number l (last p)) (sym e);
      fair = λ mode h k is becomes. assign-steps p mode m t.memory h k is becomes a fits.declared.0 does;
      fits = subst (Fits p) (sym e) (fits-behind p (record { number = number; statement = SAssign a }) behind fits);
    }
takes p number (SIf test then_ else_) behind m t fits (e, way) =
    let n : Numbered = record { number = number; statement = SIf test then_ else_ }
    in let end : ℕ = first_number behind (last p)
    in let else_at : ℕ = number + 1 + count_all then_
    in let yes : Arc = record { from = number; action = test_action true test; to = entry (number + 1) then_ end }
    in let no_ : Arc = record { from = number; action = test_action false test; to = entry else_at else_ end }
    in let then_arcs : List Arc = block_arcs p (number + 1) then_ end
    in let else_arcs : List Arc = block_arcs p else_at else_ end
    in let rest : Fits p behind = fits-behind p n behind fits
    in let within : (a : Arc) → Contains (then_arcs ++ else_arcs) a → Contains (program_arcs p) a
    = λ a at. first-among p n behind fits a (Contains-there yes a (no_ ∷ (then_arcs ++ else_arcs)) (Contains-there no_ a (then_arcs ++ else_arcs) at))
    in ⊎_elim
    (λ true_way. takes-test p m t true test fits.declared.0.0 true_way.0 e number (entry (number + 1) then_ end)
    (numbered (number + 1) then_ behind)
    (first-among p n behind fits yes (Contains-here yes (no_ ∷ (then_arcs ++ else_arcs))))
    (sym (entry-front (number + 1) then_ behind (last p)))
    (fits-block p (number + 1) then_ behind fits.declared.0.1 rest
    (λ a at. within a (Contains-append_left then_arcs else_arcs a at)))
    true_way.1)
    (λ false_way. takes-test p m t false test fits.declared.0.0 false_way.0 e number (entry else_at else_ end)
    (numbered else_at else_ behind)
    (first-among p n behind fits no_ (Contains-there yes no_ (no_ ∷ (then_arcs ++ else_arcs)) (Contains-here no_ (then_arcs ++ else_arcs))))
    (sym (entry-front else_at else_ behind (last p)))
    (fits-block p else_at else_ behind fits.declared.0.2 rest
    (λ a at. within a (Contains-append_right then_arcs else_arcs a at)))
    false_way.1)
    way
takes p number (SWhile test body) behind m t fits (e, way) =
    let n : Numbered = record { number = number; statement = SWhile test body }
    in let end : ℕ = first_number behind (last p)
    in let yes : Arc = record { from = number; action = test_action true test; to = entry (number + 1) body number }
    in let no_ : Arc = record { from = number; action = test_action false test; to = end }
    in let body_arcs : List Arc = block_arcs p (number + 1) body number
    in ⊎_elim
    (λ true_way. takes-test p m t true test fits.declared.0.0 true_way.0 e number (entry (number + 1) body number)
    (numbered (number + 1) body (n ∷ behind))
    (first-among p n behind fits yes (Contains-here yes (no_ ∷ body_arcs)))
    (sym (entry-front (number + 1) body (n ∷ behind) (last p)))
    (fits-block p (number + 1) body (n ∷ behind) fits.declared.0.1 fits
    (λ a at. first-among p n behind fits a (Contains-there yes a (no_ ∷ body_arcs) (Contains-there no_ a body_arcs at))))
    true_way.1)
    (λ false_way. takes-test p m t false test fits.declared.0.0 false_way.0 e number end behind
    (first-among p n behind fits no_ (Contains-there yes no_ (no_ ∷ body_arcs) (Contains-here no_ body_arcs)))
    refl
    (fits-behind p n behind fits)
    false_way.1)
    way

pub takes-first : (p : SourceForm) (left : List Numbered) (m : Memory) (t : State) → Fits p left → StepsFrom left m t
    → Takes p (first_number left (last p)) m t
takes-first p [] m t fits step = absurd step
takes-first p (n ∷ behind) m t fits step = takes p n.number n.statement behind m t fits step

-- ---- runs

-- the stages from a state on
pub record HasStages (p : SourceForm) (mode : Mode) (node : ℕ) (h : Heap) (later : List State) (heaps : List Heap) : Type 0 where
  pub stages : List Stage
  pub goes_on : GoesOn (compiled p) mode node h stages
  pub through : map (λ (stage : Stage). stage.heap) stages ≡ heaps
  pub brings : AreStagesOf p later stages

one-stage : (p : SourceForm) (mode : Mode) (s t : State) (h k : Heap) (later : List State) (heaps : List Heap)
    → IsHeapOfMemory p s.memory h → IsHeapOfMemory p t.memory k → Takes p (position p s) s.memory t → HasStages p mode (node_at p (position p t)) k later heaps
    → HasStages p mode (node_at p (position p s)) h (t ∷ later) (k ∷ heaps)
one-stage p mode s t h k later heaps is becomes step rest =
    let has : HasEdge p 0 (program_arcs p) step.arc = has-edge p 0 (program_arcs p) step.arc step.among
    in let stage : Stage = record { edge = has.edge; heap = k }
    in let Found : ℕ → Type 0 = λ i. slice_get (compiled p).actions i ≡ Some step.arc.action
    in let fair : FairStep (compiled p) mode has.edge h k = record {
      action = step.arc.action;
      picked = blank;
      its_action = subst Found (omega (arith, has.numbered)) (edge-action (program_arcs p) has.place step.arc has.found);
      fair = step.fair mode h k is becomes;
    }
    in let leads : has.edge.to ≡ node_at p (position p t) = has.to ∙ ap (node_at p) step.to
    in let At : ℕ → Type 0 = λ node. GoesOn (compiled p) mode node k rest.stages
    in record {
      stages = stage ∷ rest.stages;
      goes_on = (has.among, has.from ∙ ap (node_at p) step.from, fair, subst At (sym leads) rest.goes_on);
      through = ap (λ hs. k ∷ hs) rest.through;
      brings = (becomes, leads, rest.brings);
    }

has-stages : (p : SourceForm) (mode : Mode) (s : State) (later : List State) (h : Heap) (heaps : List Heap)
    → Fits p s.left → GoThrough s later → IsHeapOfMemory p s.memory h → AreHeapsOf p later heaps
    → HasStages p mode (node_at p (position p s)) h later heaps
has-stages p mode s [] h [] fits goes is are = record { stages = []; goes_on = tt; through = refl; brings = tt }
has-stages p mode s [] h (k ∷ heaps) fits goes is are = absurd are
has-stages p mode s (t ∷ later) h [] fits goes is are = absurd are
has-stages p mode s (t ∷ later) h (k ∷ heaps) fits goes is are =
    let step : Takes p (position p s) s.memory t = takes-first p s.left s.memory t fits goes.0
    in one-stage p mode s t h k later heaps is are.0 step (has-stages p mode t later k heaps step.fits goes.1 are.0 are.1)

-- stages bring the first heap to the first node
brings-first : (node : ℕ) (h : Heap) (stages : List Stage) (n : ℕ) (k : Heap) → n ≡ node → k ≡ h → BringsFrom node h stages n k
brings-first node h [] n k same_node same_heap = (same_node, same_heap)
brings-first node h (stage ∷ stages) n k same_node same_heap = inl (same_node, same_heap)

brought : (p : SourceForm) (node : ℕ) (h : Heap) (later : List State) (stages : List Stage) → AreStagesOf p later stages
    → (i : ℕ) (t : State) (k : Heap) → slice_get later i ≡ Some t → slice_get (map (λ (stage : Stage). stage.heap) stages) i ≡ Some k
    → BringsFrom node h stages (node_at p (position p t)) k
brought p node h [] stages are i t k is_state is_heap = absurd (cc is_state)
brought p node h (t0 ∷ later) [] are i t k is_state is_heap = absurd are
brought p node h (t0 ∷ later) (stage ∷ stages) are zero t k is_state is_heap =
    let same : t0 ≡ t = cc is_state
    in let same_heap : stage.heap ≡ k = cc is_heap
    in inr (brings-first stage.edge.to stage.heap stages (node_at p (position p t)) k
    (ap (λ (u : State). node_at p (position p u)) (sym same) ∙ sym are.1) (sym same_heap))
brought p node h (t0 ∷ later) (stage ∷ stages) are (suc i) t k is_state is_heap =
    inr (brought p stage.edge.to stage.heap later stages are.2 i t k is_state is_heap)

-- the whole program fits
pub fits-start : (p : SourceForm) → IsSource p → Fits p (numbered 0 p.body [])
fits-start p valid = record {
  declared = left-declared p 0 p.body [] valid.body tt;
  among = λ a at.
      let In : List Arc → Type 0 = λ all. Contains all a
      in subst In (left-of_block p 0 p.body [] ∙ append-nil (program_arcs p)) at;
}

pub source_runs_are_runs : SourceRunsAreRuns
source_runs_are_runs p valid mode s later start goes h heaps is are =
    let fits : Fits p s.left = subst (Fits p) (sym start) (fits-start p valid)
    in let has : HasStages p mode (node_at p (position p s)) h later heaps = has-stages p mode s later h heaps fits goes is are
    in let first : position p s ≡ 0 = ap (λ l. first_number l (last p)) start ∙ start-position p.body (last p) valid.some
    in let node : node_at p (position p s) ≡ 0 = ap (node_at p) first ∙ start-node p p.body (last p) valid.some
    in let At : ℕ → Type 0 = λ n. GoesOn (compiled p) mode n h has.stages
    in record {
      stages = has.stages;
      is_run = record {
        begins = record { is_heap = is.is_heap; concrete = is.concrete; meets = meets p s.memory h is };
        goes_on = subst At node has.goes_on;
      };
      through = has.through;
      stage_by_stage = has.brings;
      brings = brings first has.stages has.through has.brings;
    }
  where
    brings : position p s ≡ 0 → (stages : List Stage) → map (λ (stage : Stage). stage.heap) stages ≡ heaps → AreStagesOf p later stages
        → (i : ℕ) (t : State) (k : Heap) → slice_get (s ∷ later) i ≡ Some t → slice_get (h ∷ heaps) i ≡ Some k
        → Brings h stages (node_at p (position p t)) k
    brings first stages through are zero t k is_state is_heap =
        let same : s ≡ t = cc is_state
        in let same_heap : h ≡ k = cc is_heap
        in brings-first 0 h stages (node_at p (position p t)) k
        (ap (λ (u : State). node_at p (position p u)) (sym same) ∙ ap (node_at p) first ∙ start-node p p.body (last p) valid.some) (sym same_heap)
    brings first stages through are (suc i) t k is_state is_heap =
        let Found : List Heap → Type 0 = λ hs. slice_get hs i ≡ Some k
        in brought p 0 h later stages are i t k is_state (subst Found (sym through) is_heap)
