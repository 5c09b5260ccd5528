-- Fair steps from the heap of a structure, under the names that moves give to individuals.
use Rattle.std.specs.Prelude.{ℕ, ◌≡◌, List, Some, slice_get}
use Rattle.tv_model.specs.declared.program.Edge.{Edge}
use Rattle.tv_model.specs.declared.program.Mode.{Mode}
use Rattle.tv_model.specs.Heap.{Heap}
use Rattle.tv_model.specs.Program.{ProgramForm, ActionForm}
use Rattle.tv_model.specs.Rules.{MeetsProgram}
use Rattle.tv_model.specs.Step.{AgreesWithGiven, IsFairThrough}
use Rattle.tv_renaming_laws.specs.Renamed.{renamed}
use Rattle.tv_replay_laws.specs.Next.{kept_individual, middle_of, picked_by}
use Rattle.tv_replay_laws.specs.Stuck.{ArePicked}
use Rattle.tv_structure_form.specs.StructureForm.{StructureForm}
use Rattle.tv_two_valued.specs.TwoValued.{heap_of}
use Rattle.tv_start_laws.specs.Copies.{IsHeapCopy}

-- a fair step by the chosen individuals, in which a further individual has the number behind all others
pub record IsNamedStep (p : ProgramForm) (mode : Mode) (action : ActionForm) (chosen : List ℕ)
    (s : StructureForm) (named : Heap) : Type 0 where
  pub picks : ArePicked action chosen s
  pub fair : IsFairThrough p mode action (picked_by action.picks chosen) (heap_of s)
      (middle_of action.fresh s) named

-- a step along the edge that leads to a copy of the new heap
pub record HasNamedStep (p : ProgramForm) (mode : Mode) (edge : Edge) (s : StructureForm)
    (new : Heap) : Type 0 where
  pub action : ActionForm
  pub its_action : slice_get p.actions edge.action ≡ Some action
  pub chosen : List ℕ
  pub named : Heap
  pub is : IsNamedStep p mode action chosen s named
  pub copy : IsHeapCopy named new

-- the heap of t is a copy of the new heap, it meets the program, and given updates agree with it under the
-- names of the kept individuals: nothing speaks against a move to t
pub record LeadsToCopy (p : ProgramForm) (mode : Mode) (action : ActionForm) (chosen : List ℕ)
    (s t : StructureForm) (kept : List ℕ)
    (named : Heap)
    : Type 0 where
  pub copy : IsHeapCopy (heap_of t) named
  pub meets : MeetsProgram p (heap_of t)
  pub given : AgreesWithGiven p mode action (picked_by action.picks chosen) (middle_of action.fresh s)
      (renamed (kept_individual kept) (heap_of t))
