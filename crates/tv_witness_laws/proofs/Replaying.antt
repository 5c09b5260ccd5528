-- The run that a replay shows, as a witness.
use Rattle.std.proofs.Common.{ℕ, suc, ◌≡◌, ◌≤◌, List, [], ◌∷◌, map, length, All, refl, sym, ap, subst, ◌∙◌}
use Rattle.std.specs.List.{range_with_len}
use Rattle.std.proofs.lemmas.List.{length-map}
use Rattle.std.proofs.lemmas.List.Elements.{All-nil, All-cons, All-head, All-tail}
use Rattle.std.proofs.lemmas.List.FromFn.{length-range_with_len}
use Rattle.std.proofs.lemmas.Option.{same_Some}
use Rattle.tv_model.specs.Heap.{Heap}
use Rattle.tv_model.specs.Program.{ProgramForm}
use Rattle.tv_model.specs.Run.{Stage}
use Rattle.tv_model.specs.declared.program.Mode.{Mode}
use Rattle.tv_model.specs.declared.program.Mode.TheVariants.{Given, Recompute}
use Rattle.tv_renaming_laws.specs.Renamed.{IsRenumbered}
use Rattle.tv_replay_laws.specs.Runs.{AreStages, HasRun, ShowsGivenRun, ShowsRecomputedRun}
use Rattle.tv_replay_laws.specs.States.{AreNextStates}
use Rattle.tv_replay_laws.specs.declared.state.State.{State}
use Rattle.tv_replay_laws.proofs.Shown.{replays_show_runs}
use Rattle.tv_structure_form.specs.StructureForm.{StructureForm}
use Rattle.tv_trace.specs.declared.trace.Move.{Move}
use Rattle.tv_two_valued.specs.TwoValued.{heap_of}
use Rattle.tv_witness_laws.specs.Laws.{ReplaysShowWitnesses}
use Rattle.tv_witness_laws.specs.Replays.{last_shown, IsSmallState, IsAcceptedReplay}
use Rattle.tv_witness_laws.specs.Witness.{HasFewCells, ends_at, last_heap}
use Rattle.tv_start_laws.proofs.Copying.{copy-renumbered}
use Rattle.tv_witness_laws.proofs.Aims.{copies_keep_aims}

small-heap : (cells : ℕ) (x : State) (h : Heap) → IsSmallState cells x → IsRenumbered (heap_of x.heap) h
    → HasFewCells cells h
small-heap cells x h small (r, s, is, e) =
    let count : length h.individuals ≡ x.heap.size
    =
    ap (λ k. length k.individuals) e ∙ length-map (range_with_len 0 x.heap.size) r
    ∙ length-range_with_len 0 x.heap.size
    in subst (λ n. n ≤ cells) (sym count) small

-- the stages of the states from x on
record Follows (cells : ℕ) (x : State) (moves : List Move) (later : List State) (h : Heap)
    (stages : List Stage) : Type 0 where
  small : All (HasFewCells cells) (map (λ stage. stage.heap) stages)
  there : ends_at x.node stages ≡ (last_shown x later).node
  same : IsRenumbered (heap_of (last_shown x later).heap) (last_heap h stages)
  long : length stages ≡ length moves

follows : (p : ProgramForm) (listing : List (List StructureForm)) (cells : ℕ) (x : State) (moves : List Move)
    (later : List State) (h : Heap)
    (stages : List Stage) → AreNextStates p listing x moves later → AreStages p moves later stages
    → IsRenumbered (heap_of x.heap) h
    → All (IsSmallState cells) later → Follows cells x moves later h stages
follows p listing cells x [] [] h [] nexts are same small =
    record { small = All-nil (HasFewCells cells); there = refl; same = same; long = refl }
follows p listing cells x [] [] h (stage ∷ stages) nexts are same small = absurd are
follows p listing cells x [] (y ∷ later) h stages nexts are same small = absurd nexts
follows p listing cells x (move ∷ moves) [] h stages nexts are same small = absurd nexts
follows p listing cells x (move ∷ moves) (y ∷ later) h [] nexts are same small = absurd are
follows p listing cells x (move ∷ moves) (y ∷ later) h (stage ∷ stages) (next, nexts) (edge, here, are) same small =
    let rest : Follows cells y moves later stage.heap stages
    =
    follows p listing cells y moves later stage.heap stages nexts are here
    (All-tail (IsSmallState cells) y later small)
    in let taken : next.moves.taken.edge ≡ stage.edge
    = same_Some next.moves.taken.edge stage.edge (sym next.moves.taken.its_edge ∙ edge)
    in let node : y.node ≡ stage.edge.to = next.moves.node ∙ ap (λ e. e.to) taken
    in record {
      small = All-cons (HasFewCells cells) stage.heap (map (λ s. s.heap) stages)
          (small-heap cells y stage.heap (All-head (IsSmallState cells) y later small) here) rest.small;
      there = subst (λ n. ends_at n stages ≡ (last_shown y later).node) node rest.there;
      same = rest.same;
      long = ap suc rest.long;
    }

states-same : (a b : State) (xs ys : List State) → a ∷ xs ≡ b ∷ ys → (a ≡ b) × (xs ≡ ys)
states-same a b xs ys e = (cc e, cc e)

shown : (p : ProgramForm) (mode : Mode) (initial : List StructureForm) (moves : List Move) (first : State)
    (later : List State)
    → ShowsGivenRun p initial moves (first ∷ later) × ShowsRecomputedRun p initial moves (first ∷ later)
    → IsAcceptedReplay mode first later → HasRun p mode initial moves first later
shown p Given initial moves first later shows is = shows.0 first later refl is.initial is.unbroken is.rules
shown p Recompute initial moves first later shows is = shows.1 first later refl is.initial is.unbroken is.rules

pub replays_show_witnesses : ReplaysShowWitnesses
replays_show_witnesses q valid closed start structure two over moves listing first later replay accepted small node
    aim =
    let run : HasRun q.program q.mode q.initial moves first later
    = shown q.program q.mode q.initial moves first later
    (replays_show_runs q.program valid q.initial start structure two over moves listing
    (first ∷ later) replay) accepted
    in let same = states-same first replay.first later replay.later replay.are
    in let nexts : AreNextStates q.program listing first moves later
    = subst (λ x. AreNextStates q.program listing x moves later) (sym same.0)
    (subst (AreNextStates q.program listing replay.first moves) (sym same.1) replay.goes_on)
    in let zero_ : first.node ≡ 0 = ap (λ x. x.node) same.0 ∙ replay.begins.node
    in let on : Follows q.cells first moves later run.start run.stages
    = follows q.program listing q.cells first moves later run.start run.stages nexts run.goes_on run.begins
    (All-tail (IsSmallState q.cells) first later small)
    in (
      run.start,
      run.stages,
      record {
        runs = record {
          is_run = run.is_run;
          from = (run.from.1.0, run.from.0, run.from.1.1, run.from.1.2, run.from.2);
          small = All-cons (HasFewCells q.cells) run.start (map (λ stage. stage.heap) run.stages)
              (small-heap q.cells first run.start
              (All-head (IsSmallState q.cells) first later small) run.begins) on.small;
        };
        there = subst (λ n. ends_at n run.stages ≡ (last_shown first later).node) zero_ on.there ∙ node;
        aim = (copies_keep_aims q.aim closed (heap_of (last_shown first later).heap) (last_heap run.start run.stages)
            (copy-renumbered (heap_of (last_shown first later).heap) (last_heap run.start run.stages) on.same)).0 aim;
      },
      on.long,
    )
