-- The runs that a replay shows.
use Rattle.std.specs.Prelude.{◌≡◌, List, [], ◌∷◌, Some, None, All, IsSome, Contains, slice_get, ⊤}
use Rattle.tv_embedding_laws.specs.Embedding.{IsHeapOf}
use Rattle.tv_model.specs.Heap.{Heap}
use Rattle.tv_model.specs.Program.{ProgramForm}
use Rattle.tv_model.specs.Run.{IsRun, Stage}
use Rattle.tv_model.specs.declared.program.Mode.{Mode}
use Rattle.tv_model.specs.declared.program.Mode.TheVariants.{Given, Recompute}
use Rattle.tv_structure_form.specs.StructureForm.{StructureForm, structure_of}
use Rattle.tv_trace.specs.declared.trace.Move.{Move}
use Rattle.tv_two_valued.specs.TwoValued.{heap_of}
use Rattle.tv_renaming_laws.specs.Renamed.{IsRenumbered}
use Rattle.tv_replay_laws.specs.declared.state.State.{State}

-- the stages take the edges of the moves, and their heaps are those of the states, up to a renumbering of
-- each
abbrev pub AreStages : ProgramForm → List Move → List State → List Stage → Type 0
AreStages p [] [] [] = ⊤
AreStages p (move ∷ moves) (x ∷ states) (stage ∷ stages) =
    (slice_get p.edges move.edge ≡ Some stage.edge) × IsRenumbered (heap_of x.heap) stage.heap
    × AreStages p moves states stages
AreStages p [] [] (stage ∷ stages) = ⊥
AreStages p [] (x ∷ states) stages = ⊥
AreStages p (move ∷ moves) [] stages = ⊥
AreStages p (move ∷ moves) (x ∷ states) [] = ⊥

-- there is a run along the moves' edges whose heaps are those of the states, from a heap that embeds in an
-- initial structure
pub record HasRun (p : ProgramForm) (mode : Mode) (initial : List StructureForm) (moves : List Move)
    (first : State) (later : List State)
    : Type 0 where
  pub start : Heap
  pub stages : List Stage
  pub is_run : IsRun p mode start stages
  pub from : (t : StructureForm) × Contains initial t × IsHeapOf start (structure_of t)
  pub begins : IsRenumbered (heap_of first.heap) start
  pub goes_on : AreStages p moves later stages

-- nothing is broken in the state
abbrev pub IsUnbroken : State → Type 0
IsUnbroken x = x.broken ≡ None

abbrev pub MeetsRules : State → Type 0
MeetsRules x = x.rule ≡ None

-- where the start heap embeds in an initial structure and nothing is broken, updates are taken as given
abbrev pub ShowsGivenRun : ProgramForm → List StructureForm → List Move → List State → Type 0
ShowsGivenRun p initial moves states =
    (first : State) (later : List State) → states ≡ first ∷ later → IsSome first.initial
    → All IsUnbroken states → All MeetsRules states
    → HasRun p Given initial moves first later

-- the same where definitions are evaluated anew: then only the first state's definitions count
abbrev pub ShowsRecomputedRun : ProgramForm → List StructureForm → List Move → List State → Type 0
ShowsRecomputedRun p initial moves states =
    (first : State) (later : List State) → states ≡ first ∷ later → IsSome first.initial → IsUnbroken first
    → All MeetsRules states
    → HasRun p Recompute initial moves first later
