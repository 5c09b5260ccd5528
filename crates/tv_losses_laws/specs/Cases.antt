-- Cases of a structure along an edge, and which of them are lost.
use Rattle.std.specs.Prelude.{ℕ, ◌≡◌, List, length, All, Contains}
use Rattle.tv_kleene.specs.declared.K3.TheVariants.{Yes}
use Rattle.tv_model.specs.declared.program.Mode.{Mode}
use Rattle.tv_model.specs.Heap.{Heap}
use Rattle.tv_model.specs.Program.{ProgramForm, ActionForm}
use Rattle.tv_model.specs.Rules.{MeetsProgram}
use Rattle.tv_model.specs.Run.{IsStart}
use Rattle.tv_model.specs.Step.{AgreesWithGiven}
use Rattle.tv_model.specs.Truth.{Assignment}
use Rattle.tv_embedding_laws.specs.LogicalStructure.{heap_structure}
use Rattle.tv_embedding_laws.specs.Embedding.{Embeds}
use Rattle.tv_structure_form.specs.StructureForm.{StructureForm, structure_of}
use Rattle.tv_update_laws.specs.Picks.{lists_of, picks_of, precondition_value}
use Rattle.tv_step_laws.specs.Budgets.{IsFocused}
use Rattle.tv_step_laws.specs.Transfer.{GivesStructures, HasNoOpening, IsActionOf}

-- a structure at hand, and individuals for the picked variables, in order
pub record CaseForm : Type 0 where
  pub at_hand : StructureForm
  pub picked : List ℕ

-- it is a case of s: focus and coerce leave its structure at hand, and the precondition is Yes, or there is
-- none
pub record IsSureCase (p : ProgramForm) (action : ActionForm) (s : StructureForm)
    (c : CaseForm) : Type 0 where
  pub focused : IsFocused p action s c.at_hand
  pub listed : Contains (lists_of (structure_of c.at_hand).individuals (length action.picks)) c.picked
  pub enabled : precondition_value (structure_of c.at_hand) (picks_of action c.picked) action.pre ≡ Yes

-- rules drop each structure that the update gives of it: nothing below it is stable under the closed rules
pub record IsDroppedCase (p : ProgramForm) (mode : Mode) (action : ActionForm) (c : CaseForm) : Type 0 where
  pub given : List StructureForm
  pub are_given : GivesStructures p mode action c.at_hand c.picked given
  pub none : All (HasNoOpening p) given

-- a case of s that is lost along the edge
pub record IsLostCase (p : ProgramForm) (mode : Mode) (edge : ℕ) (s : StructureForm) (c : CaseForm)
    : Type 0 where
  pub action : ActionForm
  pub its_action : IsActionOf p edge action
  pub is_case : IsSureCase p action s c
  pub dropped : IsDroppedCase p mode action c

-- a concrete heap that meets the program embeds in the case's structure by a map that takes its chosen
-- individuals to the case's
pub record IsHeapOfCase (p : ProgramForm) (action : ActionForm) (c : CaseForm) (picked : Assignment)
    (h : Heap) : Type 0 where
  pub start : IsStart p h
  pub place : ℕ → ℕ
  pub embeds : Embeds place (heap_structure h) (structure_of c.at_hand)
  pub picks : All (λ v. Contains h.individuals (picked v)) action.picks
  pub takes : (v : ℕ) → Contains action.picks v → place (picked v) ≡ picks_of action c.picked v

-- what a step claims of the new heap: that it meets the declared rules and properties, and, in mode Given,
-- that the given updates agree with definitions
pub record MeetsClaims (p : ProgramForm) (mode : Mode) (action : ActionForm) (picked : Assignment)
    (middle new : Heap) : Type 0 where
  pub meets : MeetsProgram p new
  pub given : AgreesWithGiven p mode action picked middle new
