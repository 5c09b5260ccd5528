-- Laws of replays, as statements.
use Rattle.std.specs.Prelude.{ℕ, ◌≡◌, ◌↔◌, List, All}
use Rattle.tv_model.specs.Heap.{Heap}
use Rattle.tv_model.specs.Program.{ProgramForm}
use Rattle.tv_model.specs.Rules.{MeetsProgram, MeetsRule}
use Rattle.tv_model.specs.Valid.{IsValid}
use Rattle.tv_structure_form.specs.StructureForm.{StructureForm, IsStructure}
use Rattle.tv_trace.specs.declared.trace.Move.{Move}
use Rattle.tv_two_valued.specs.Laws.{IsOfProgram}
use Rattle.tv_two_valued.specs.TwoValued.{IsTwoValued}
use Rattle.tv_replay_laws.specs.JudgedRules.{judged_rules}
use Rattle.tv_replay_laws.specs.Runs.{ShowsGivenRun, ShowsRecomputedRun}
use Rattle.tv_replay_laws.specs.States.{IsReplay}
use Rattle.tv_replay_laws.specs.Stuck.{GoesThrough, IsStuck, Standing, start_at}
use Rattle.tv_replay_laws.specs.declared.state.State.{State}
use Rattle.tv_replay_laws.specs.declared.state.Why.{Why}

-- a replay from a heap of the program shows runs, in both modes
abbrev pub ReplaysShowRuns : Type 0
ReplaysShowRuns =
    (p : ProgramForm) → IsValid p → (initial : List StructureForm) (start : StructureForm) → IsStructure start
    → IsTwoValued start
    → IsOfProgram p start → (moves : List Move) (listing : List (List StructureForm)) (states : List State)
    → IsReplay p initial start moves listing states
    → ShowsGivenRun p initial moves states × ShowsRecomputedRun p initial moves states

-- a run from the heap along the moves has one ending
pub record HasOneEnding (p : ProgramForm) (start : StructureForm) (moves : List Move) : Type 0 where
  -- it is stuck at one step, for one reason
  pub stuck : (j k : ℕ) (w v : Why) → IsStuck p start moves j w → IsStuck p start moves k v
      → (j ≡ k) × (w ≡ v)
  -- and at none where all the moves can be made
  pub unstuck : (later : List Standing) (step : ℕ) (w : Why) → GoesThrough p (start_at start) moves later
      → ¬ IsStuck p start moves step w
  -- as they can where there is a replay
  pub made : (initial : List StructureForm) (listing : List (List StructureForm)) (states : List State)
      → IsReplay p initial start moves listing states
      → (later : List Standing) × GoesThrough p (start_at start) moves later
  -- of which there is one
  pub states : IsStructure start → IsTwoValued start
      → (initial : List StructureForm) (listing : List (List StructureForm))
      (xs ys : List State) → IsReplay p initial start moves listing xs
      → IsReplay p initial start moves listing ys → xs ≡ ys

abbrev pub RunsHaveOneEnding : Type 0
RunsHaveOneEnding =
    (p : ProgramForm) → IsValid p → (start : StructureForm) (moves : List Move) → HasOneEnding p start moves

-- a heap meets a program exactly where it meets all the rules that are judged
abbrev pub JudgedRulesAreTheProgram : Type 0
JudgedRulesAreTheProgram =
    (p : ProgramForm) (h : Heap) → All (MeetsRule h) (judged_rules p) ↔ MeetsProgram p h
