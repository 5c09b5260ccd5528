-- What is asked of the runs of small heaps, and what answers it.
use Rattle.std.specs.Prelude.{ℕ, ◌≡◌, ◌≤◌, List, [], ◌∷◌, length, map, All}
use Rattle.tv_model.specs.declared.program.Mode.{Mode}
use Rattle.tv_model.specs.Form.{Form}
use Rattle.tv_model.specs.Heap.{Heap}
use Rattle.tv_model.specs.Program.{ProgramForm}
use Rattle.tv_model.specs.Rules.{blank}
use Rattle.tv_model.specs.Run.{IsRun, Stage}
use Rattle.tv_model.specs.Truth.{Truth}
use Rattle.tv_embedding_laws.specs.Embedding.{IsHeapOf}
use Rattle.tv_structure_form.specs.StructureForm.{StructureForm, structure_of}
use Rattle.tv_step_laws.specs.Sound.{IsHeapOfSome}

-- what the last heap of a run is to be: one that makes a condition true, or one of a structure
pub data Aim : Type 0 where
  Makes : Form → Aim
  LiesIn : StructureForm → Aim

abbrev pub IsAimedAt : Aim → Heap → Type 0
IsAimedAt (Makes cond) h = Truth h blank cond
IsAimedAt (LiesIn s) h = IsHeapOf h (structure_of s)

-- what is asked: the premises, how many individuals a heap may have, and where the run shall end in what heap
pub record Question : Type 0 where
  pub program : ProgramForm
  pub mode : Mode
  pub initial : List StructureForm
  pub cells : ℕ
  pub node : ℕ
  pub aim : Aim

abbrev pub HasFewCells : (cells : ℕ) → Heap → Type 0
HasFewCells cells h = length h.individuals ≤ cells

abbrev pub heaps_of : Heap → List Stage → List Heap
heaps_of start stages = start ∷ map (λ stage. stage.heap) stages

-- the target of the last stage's edge
abbrev pub ends_at : (node : ℕ) → List Stage → ℕ
ends_at node [] = node
ends_at node (stage ∷ later) = ends_at stage.edge.to later

abbrev pub last_heap : Heap → List Stage → Heap
last_heap start [] = start
last_heap start (stage ∷ later) = last_heap stage.heap later

-- a run of small heaps, from a heap that embeds in an initial structure
pub record IsSmallRun (q : Question) (start : Heap) (stages : List Stage) : Type 0 where
  pub is_run : IsRun q.program q.mode start stages
  pub from : IsHeapOfSome q.initial start
  pub small : All (HasFewCells q.cells) (heaps_of start stages)

-- such a run that ends at the node, in a heap as it is asked for
pub record IsWitness (q : Question) (start : Heap) (stages : List Stage) : Type 0 where
  pub runs : IsSmallRun q start stages
  pub there : ends_at 0 stages ≡ q.node
  pub aim : IsAimedAt q.aim (last_heap start stages)

-- the same question with another number of cells
abbrev pub with_cells : Question → (cells : ℕ) → Question
with_cells q cells = record q { cells = cells }

abbrev pub HasWitness : Question → Type 0
HasWitness q = (start : Heap) × (stages : List Stage) × IsWitness q start stages
