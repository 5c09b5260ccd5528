-- The runs that a replay shows.
use Rattle.std.proofs.Common.{ℕ, ◌≡◌, List, [], ◌∷◌, Option, Some, None, All, Contains, refl, sym, ap, subst}
use Rattle.std.proofs.Common.{◌∙◌}
use Rattle.std.specs.Prelude.{IsSome}
use Rattle.std.specs.Option.{option_map}
use Rattle.std.proofs.lemmas.Bool.{false≢true}
use Rattle.std.proofs.lemmas.List.Elements.{All-head, All-tail}
use Rattle.tv_replay_laws.specs.JudgedRules.{IsFirstUnmet, judged_rules}
use Rattle.tv_replay_laws.specs.Above.{IsFirstAbove}
use Rattle.tv_replay_laws.specs.declared.state.ListedCover.{ListedCover}
use Rattle.tv_replay_laws.proofs.JudgedRules.{judged_are_all}
use Rattle.tv_embedding_laws.specs.Embedding.{IsHeapOf}
use Rattle.tv_model.specs.Heap.{Heap}
use Rattle.tv_model.specs.Program.{ProgramForm, PredForm, EachPred}
use Rattle.tv_model.specs.Rules.{IsHeap, MeetsProgram}
use Rattle.tv_model.specs.Run.{GoesOn, Stage}
use Rattle.tv_model.specs.Step.{AgreesWithGiven, FairStep}
use Rattle.tv_model.specs.Valid.{IsValid}
use Rattle.tv_model.specs.declared.formula.PredId.{PredId}
use Rattle.tv_model.specs.declared.program.Mode.{Mode}
use Rattle.tv_model.specs.declared.program.Mode.TheVariants.{Given, Recompute}
use Rattle.tv_model.proofs.Lists.{slice_get-contains}
use Rattle.tv_renaming_laws.specs.Renamed.{renamed, IsRenaming}
use Rattle.tv_renaming_laws.proofs.Heaps.{meets-renamed}
use Rattle.tv_renaming_laws.proofs.Steps.{fair-renamed}
use Rattle.tv_structure_form.specs.StructureForm.{StructureForm, IsStructure, structure_of}
use Rattle.tv_trace.specs.declared.trace.Move.{Move}
use Rattle.tv_two_valued.specs.Laws.{IsOfProgram}
use Rattle.tv_two_valued.specs.TwoValued.{IsTwoValued, heap_of}
use Rattle.tv_two_valued.proofs.Heaps.{heap-of_program}
use Rattle.tv_replay_laws.specs.Judged.{IsFirst, AgreesAt, IsAsDefined}
use Rattle.tv_replay_laws.specs.Laws.{ReplaysShowRuns}
use Rattle.tv_replay_laws.specs.Next.{picked_by, middle_of, kept_individual}
use Rattle.tv_replay_laws.specs.Runs.{AreStages, HasRun, IsUnbroken, MeetsRules}
use Rattle.tv_replay_laws.specs.States.{AreNextStates, IsFirstState, IsNextState, broken_in}
use Rattle.tv_replay_laws.specs.declared.state.State.{State}
use Rattle.tv_replay_laws.proofs.Named.{after, embeds-heap, kept-named, renamed-same, renamed-twice}

-- ---- what the states say where nothing is broken

met-rules : (p : ProgramForm) (x : State) → IsFirstUnmet (heap_of x.heap) (judged_rules p) x.rule → MeetsRules x → MeetsProgram p (heap_of x.heap)
met-rules p x first none = (judged_are_all p (heap_of x.heap)).0 (subst (IsFirstUnmet (heap_of x.heap) (judged_rules p)) none first)

unbroken-all : (preds : List PredForm) (P : ℕ → PredForm → Type 0) (x : State) → IsFirst preds P (broken_in x) → IsUnbroken x → EachPred preds P
unbroken-all preds P x first none = subst (IsFirst preds P) (ap (option_map (λ (q : PredId). q.0)) none) first

-- in mode Given no later state is broken; in the other mode nothing is asked
abbrev pub IsFine : Mode → State → Type 0
IsFine Given x = IsUnbroken x
IsFine Recompute x = Unit {0}

given-agrees : (p : ProgramForm) (mode : Mode) (listing : List (List StructureForm)) (move : Move) (before x : State) (next : IsNextState p listing move before x)
    → IsFine mode x
    → AgreesWithGiven p mode next.moves.taken.action (picked_by next.moves.taken.action.picks move.picks)
    (middle_of next.moves.taken.action.fresh before.heap) (renamed (kept_individual next.moves.kept) (heap_of x.heap))
given-agrees p Recompute listing move before x next fine = tt
given-agrees p Given listing move before x next fine =
    unbroken-all p.preds
    (AgreesAt next.moves.taken.action (picked_by next.moves.taken.action.picks move.picks)
    (middle_of next.moves.taken.action.fresh before.heap) (renamed (kept_individual next.moves.kept) (heap_of x.heap))) x next.broken fine

-- ---- one step

step-fair : (p : ProgramForm) → IsValid p → (mode : Mode) (listing : List (List StructureForm)) (move : Move) (before x : State)
    (next : IsNextState p listing move before x) (r t : ℕ → ℕ) → IsRenaming r t
    → renamed (kept_individual next.moves.kept) (heap_of x.heap) ≡ renamed r (heap_of x.heap)
    → MeetsProgram p (heap_of before.heap) → MeetsProgram p (heap_of x.heap) → IsFine mode x
    → FairStep p mode next.moves.taken.edge (heap_of before.heap) (renamed r (heap_of x.heap))
step-fair p valid mode listing move before x next r t is same old_meets new_meets fine =
    let named : MeetsProgram p (renamed (kept_individual next.moves.kept) (heap_of x.heap))
    = subst (MeetsProgram p) (sym same) (meets-renamed p r t is (heap_of x.heap) new_meets)
    in let fair : FairStep p mode next.moves.taken.edge (heap_of before.heap) (renamed (kept_individual next.moves.kept) (heap_of x.heap))
    = record {
      action = next.moves.taken.action;
      picked = picked_by next.moves.taken.action.picks move.picks;
      its_action = next.moves.taken.its_action;
      fair = (
        middle_of next.moves.taken.action.fresh before.heap,
        record {
          step = next.moves.next.steps;
          given = given-agrees p mode listing move before x next fine;
          old_meets = old_meets;
          new_meets = named;
        },
      );
    }
    in subst (FairStep p mode next.moves.taken.edge (heap_of before.heap)) same fair

-- ---- the stages from a state on

-- stages that go on from the state's heap under the names that r gives
pub record Stages (p : ProgramForm) (mode : Mode) (before : State) (moves : List Move) (later : List State) (r : ℕ → ℕ) : Type 0 where
  pub stages : List Stage
  pub goes_on : GoesOn p mode before.node (renamed r (heap_of before.heap)) stages
  pub are : AreStages p moves later stages

one-stage : (p : ProgramForm) → IsValid p → (mode : Mode) (listing : List (List StructureForm)) (move : Move) (moves : List Move) (before x : State) (later : List State)
    (next : IsNextState p listing move before x) (r t r' t' : ℕ → ℕ) → IsRenaming r t → IsRenaming r' t'
    → renamed (kept_individual next.moves.kept) (heap_of x.heap) ≡ renamed r' (heap_of x.heap)
    → MeetsProgram p (heap_of before.heap) → MeetsProgram p (heap_of x.heap) → IsFine mode x
    → Stages p mode x moves later (λ u. r (r' u)) → Stages p mode before (move ∷ moves) (x ∷ later) r
one-stage p valid mode listing move moves before x later next r t r' t' is is' same old_meets new_meets fine rest =
    let edge = next.moves.taken.edge
    in let heap : Heap = renamed (λ u. r (r' u)) (heap_of x.heap)
    in let fair : FairStep p mode edge (renamed r (heap_of before.heap)) heap
    = subst (FairStep p mode edge (renamed r (heap_of before.heap))) (renamed-twice r' r (heap_of x.heap))
    (fair-renamed p valid r t is mode edge (heap_of before.heap) (renamed r' (heap_of x.heap))
    (step-fair p valid mode listing move before x next r' t' is' same old_meets new_meets fine))
    in record {
      stages = record { edge = edge; heap = heap } ∷ rest.stages;
      goes_on = (
        slice_get-contains p.edges move.edge edge next.moves.taken.its_edge,
        next.moves.can.leaves,
        fair,
        subst (λ node. GoesOn p mode node heap rest.stages) next.moves.node rest.goes_on,
      );
      are = (
        next.moves.taken.its_edge,
        (λ u. r (r' u), λ w. t' (t w), after r' t' r t is' is, refl),
        rest.are,
      );
    }

stages-from : (p : ProgramForm) → IsValid p → (mode : Mode) (listing : List (List StructureForm)) (before : State) (moves : List Move) (later : List State)
    → AreNextStates p listing before moves later → MeetsProgram p (heap_of before.heap) → All MeetsRules later → All (IsFine mode) later
    → (r t : ℕ → ℕ) → IsRenaming r t → Stages p mode before moves later r
stages-from p valid mode listing before [] [] are meets rules fine r t is = record { stages = []; goes_on = tt; are = tt }
stages-from p valid mode listing before [] (x ∷ later) are meets rules fine r t is = elim are [ ]
stages-from p valid mode listing before (move ∷ moves) [] are meets rules fine r t is = elim are [ ]
stages-from p valid mode listing before (move ∷ moves) (x ∷ later) (next, others) meets rules fine r t is =
    let named = kept-named x.heap next.moves.kept next.moves.unmarked next.moves.next.size next.moves.next.are_kept.ascending
    in let new_meets : MeetsProgram p (heap_of x.heap) = met-rules p x next.judged.rule (All-head MeetsRules x later rules)
    in one-stage p valid mode listing move moves before x later next r t named.0 named.1 is named.2 named.3 meets new_meets
    (All-head (IsFine mode) x later fine)
    (stages-from p valid mode listing x moves later others new_meets (All-tail MeetsRules x later rules) (All-tail (IsFine mode) x later fine)
    (λ u. r (named.0 u)) (λ w. named.1 (t w)) (after named.0 named.1 r t named.2 is))

-- ---- the run

start-above : (initial : List StructureForm) (start : StructureForm) → IsStructure start → IsTwoValued start → (place : Option ListedCover)
    → IsFirstAbove start initial place → IsSome place → (t : StructureForm) × Contains initial t × IsHeapOf (heap_of start) (structure_of t)
start-above initial start is two None above some = absurd (false≢true some)
start-above initial start is two (Some place) above some =
    let found = above.0
    in (
      found.0,
      slice_get-contains initial place.structure found.0 found.1,
      embeds-heap start found.0 _ is two found.2.0.1,
    )

run-shown : (p : ProgramForm) → IsValid p → (mode : Mode) (initial : List StructureForm) (start : StructureForm) → IsStructure start → IsTwoValued start
    → IsOfProgram p start → (moves : List Move) (listing : List (List StructureForm)) (first : State) (later : List State)
    → IsFirstState p initial start listing first → AreNextStates p listing first moves later
    → IsSome first.initial → IsUnbroken first → MeetsRules first → All MeetsRules later → All (IsFine mode) later
    → HasRun p mode initial moves first later
run-shown p valid mode initial start is two over moves listing first later begins goes_on some unbroken met rules fine =
    let same : heap_of first.heap ≡ heap_of start = ap heap_of begins.heap
    in let meets : MeetsProgram p (heap_of first.heap) = met-rules p first begins.judged.rule met
    in let id : IsRenaming (λ u. u) (λ u. u) = record { back = λ u. refl; there = λ w. refl }
    in let stages = stages-from p valid mode listing first moves later goes_on meets rules fine (λ u. u) (λ u. u) id
    in record {
      start = heap_of first.heap;
      stages = stages.stages;
      is_run = record {
        begins = record {
          is_heap = subst (IsHeap p) (sym same) (heap-of_program p start is over);
          concrete = subst (λ h. EachPred p.preds (IsAsDefined h)) (sym same) (unbroken-all p.preds (IsAsDefined (heap_of start)) first begins.broken unbroken);
          meets = meets;
        };
        goes_on = subst (λ node. GoesOn p mode node (heap_of first.heap) stages.stages) begins.node
            (subst (λ h. GoesOn p mode first.node h stages.stages) (renamed-same (heap_of first.heap)) stages.goes_on);
      };
      from =
          subst (λ h. (t : StructureForm) × Contains initial t × IsHeapOf h (structure_of t)) (sym same)
          (start-above initial start is two first.initial begins.above some);
      begins = (λ u. u, λ u. u, id, sym (renamed-same (heap_of first.heap)));
      goes_on = stages.are;
    }

-- ---- both modes

first-of : (a b : State) (as' bs : List State) → a ∷ as' ≡ b ∷ bs → (a ≡ b) × (as' ≡ bs)
first-of a b as' bs e = (cc e, cc e)

fine-all : (later : List State) → All (IsFine Recompute) later
fine-all later k d lt = tt

pub replays_show_runs : ReplaysShowRuns
replays_show_runs p valid initial start is two over moves listing states replay = (
  λ first later e some unbroken rules.
      let same = first-of first replay.first later replay.later (sym e ∙ replay.are)
      in let all_unbroken : All IsUnbroken (first ∷ later) = subst (All IsUnbroken) e unbroken
      in let all_met : All MeetsRules (first ∷ later) = subst (All MeetsRules) e rules
      in run-shown p valid Given initial start is two over moves listing first later
      (subst (IsFirstState p initial start listing) (sym same.0) replay.begins)
      (subst (λ x. AreNextStates p listing x moves later) (sym same.0) (subst (AreNextStates p listing replay.first moves) (sym same.1) replay.goes_on))
      some (All-head IsUnbroken first later all_unbroken) (All-head MeetsRules first later all_met)
      (All-tail MeetsRules first later all_met) (All-tail IsUnbroken first later all_unbroken),
  λ first later e some unbroken rules.
      let same = first-of first replay.first later replay.later (sym e ∙ replay.are)
      in let all_met : All MeetsRules (first ∷ later) = subst (All MeetsRules) e rules
      in run-shown p valid Recompute initial start is two over moves listing first later
      (subst (IsFirstState p initial start listing) (sym same.0) replay.begins)
      (subst (λ x. AreNextStates p listing x moves later) (sym same.0) (subst (AreNextStates p listing replay.first moves) (sym same.1) replay.goes_on))
      some unbroken (All-head MeetsRules first later all_met) (All-tail MeetsRules first later all_met) (fine-all later),
)
