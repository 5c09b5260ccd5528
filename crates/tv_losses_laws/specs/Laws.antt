-- Laws of lost cases, as statements.
use Rattle.std.specs.Prelude.{ℕ, ◌≡◌, List, [], Some, All, Contains, IfSome, slice_get}
use Rattle.tv_model.specs.declared.program.Mode.{Mode}
use Rattle.tv_model.specs.Heap.{Heap}
use Rattle.tv_model.specs.Program.{ProgramForm, PredForm, ActionForm, UpdateForm}
use Rattle.tv_model.specs.Rules.{MeetsProgram, MeetsRule}
use Rattle.tv_model.specs.Run.{IsStart}
use Rattle.tv_model.specs.Step.{StepsThrough, FairlySteps, AgreesWithGiven, update_for}
use Rattle.tv_model.specs.Truth.{Assignment, Truth}
use Rattle.tv_model.specs.Valid.{IsValid}
use Rattle.tv_embedding_laws.specs.Embedding.{IsHeapOf}
use Rattle.tv_structure_form.specs.StructureForm.{StructureForm, structure_of}
use Rattle.tv_step_laws.specs.Budgets.{IsPassed}
use Rattle.tv_step_laws.specs.Sound.{IsStartOf}
use Rattle.tv_step_laws.specs.Transfer.{AreAtHand, AreResults, GivesStructures, HasNoOpening, IsActionOf}
use Rattle.tv_step_laws.specs.Transfer.{focus_places}
use Rattle.tv_losses_unmet.specs.declared.claim.Claim.{Claim}
use Rattle.tv_losses_laws.specs.Declared.{IsLostBy, rules_declared}
use Rattle.tv_losses_laws.specs.Updated.{IsDroppedByUpdate, AgreesWithUpdate}
use Rattle.tv_losses_laws.specs.Cases.{CaseForm, IsSureCase, IsDroppedCase, IsLostCase, IsHeapOfCase}
use Rattle.tv_losses_laws.specs.Cases.{MeetsClaims}

-- each step by the action from the heap breaks a claim, and so none is fair
pub record BreaksClaims (p : ProgramForm) (mode : Mode) (action : ActionForm) (picked : Assignment)
    (h : Heap) : Type 0 where
  pub broken : (middle new : Heap) → StepsThrough p action picked h middle new
      → ¬ MeetsClaims p mode action picked middle new
  pub unfair : (new : Heap) → ¬ FairlySteps p mode action picked h new

abbrev pub LostCasesBreakClaims : Type 0
LostCasesBreakClaims =
    (p : ProgramForm) → IsValid p → (mode : Mode) (edge : ℕ) (s : StructureForm) (c : CaseForm)
    → IsLostCase p mode edge s c
    → (action : ActionForm) → IsActionOf p edge action
    → (picked : Assignment) (h : Heap) → IsHeapOfCase p action c picked h
    → BreaksClaims p mode action picked h

-- each heap of the structure at hand has individuals for the case, and whatever it has for it, the
-- precondition is true of these
pub record TakesCase (p : ProgramForm) (action : ActionForm) (c : CaseForm) (h : Heap) : Type 0 where
  pub some : IsHeapOf h (structure_of c.at_hand) → (picked : Assignment) × IsHeapOfCase p action c picked h
  pub enabled : (picked : Assignment) → IsHeapOfCase p action c picked h
      → IfSome action.pre (Truth h picked)

abbrev pub HeapsTakeCases : Type 0
HeapsTakeCases =
    (p : ProgramForm) → IsValid p → (action : ActionForm) → Contains p.actions action
    → (s : StructureForm) (c : CaseForm) → IsSureCase p action s c → (h : Heap) → IsStart p h
    → TakesCase p action c h

-- what a declaration alone loses is lost, and the new heap of each step by the action from the heap, where
-- the given updates agree, doesn't meet that very declaration
pub record BreaksDeclaration (p : ProgramForm) (mode : Mode) (edge : ℕ) (s : StructureForm) (c : CaseForm)
    (claim : Claim) : Type 0 where
  pub lost : IsLostCase p mode edge s c
  pub broken : (action : ActionForm) → IsActionOf p edge action
      → (picked : Assignment) (h : Heap) → IsHeapOfCase p action c picked h
      → (middle new : Heap) → StepsThrough p action picked h middle new
      → AgreesWithGiven p mode action picked middle new
      → ¬ All (MeetsRule new) (rules_declared p claim)

abbrev pub LostCasesBreakDeclarations : Type 0
LostCasesBreakDeclarations =
    (p : ProgramForm) → IsValid p → (mode : Mode) (edge : ℕ) (s : StructureForm) (c : CaseForm)
    (claim : Claim) → IsLostBy p mode edge s c claim → BreaksDeclaration p mode edge s c claim

-- where one given update alone drops all, and the new heap of a step meets the program, it is that very
-- update that doesn't agree
abbrev pub DroppingUpdatesDisagree : Type 0
DroppingUpdatesDisagree =
    (p : ProgramForm) → IsValid p → (action : ActionForm) → Contains p.actions action
    → (c : CaseForm) (q : ℕ) → IsDroppedByUpdate p action c q
    → (d : PredForm) → slice_get p.preds q ≡ Some d
    → (w : UpdateForm) → update_for q action.updates ≡ Some w
    → (picked : Assignment) (h : Heap) → IsHeapOfCase p action c picked h
    → (middle new : Heap) → StepsThrough p action picked h middle new → MeetsProgram p new
    → ¬ AgreesWithUpdate q d.arity w picked middle new

-- what an update gives of a case is determined: where rules drop it, they drop whatever it gives
abbrev pub DroppedCasesAreDetermined : Type 0
DroppedCasesAreDetermined =
    (p : ProgramForm) → IsValid p → (mode : Mode) (action : ActionForm) → Contains p.actions action
    → (s : StructureForm) (c : CaseForm) → IsSureCase p action s c → IsDroppedCase p mode action c
    → (given : List StructureForm) → GivesStructures p mode action c.at_hand c.picked given
    → All (HasNoOpening p) given

-- where a structure has no results along an edge, each case of it is lost
abbrev pub NoResultsLoseCases : Type 0
NoResultsLoseCases =
    (p : ProgramForm) → IsValid p → (mode : Mode) (edge : ℕ) (s : StructureForm) → AreResults p mode edge s []
    → (action : ActionForm) → IsActionOf p edge action
    → (c : CaseForm) → IsSureCase p action s c → IsLostCase p mode edge s c

-- where nothing is at hand of a structure, it stands for no concrete heap that meets the program
abbrev pub NothingAtHandHasNoHeap : Type 0
NothingAtHandHasNoHeap =
    (p : ProgramForm) → IsValid p → (action : ActionForm) (s : StructureForm)
    → AreAtHand p (focus_places action.focus) s [] → (h : Heap) → ¬ IsStartOf p s h

-- a heap of s that steps fairly is a heap of a structure at hand, with individuals that pass the
-- precondition, and what the update gives of these isn't dropped
pub record IsKept (p : ProgramForm) (mode : Mode) (action : ActionForm) (s : StructureForm)
    (picked : Assignment) (h : Heap) : Type 0 where
  pub kept : CaseForm
  pub passed : IsPassed p action s kept.at_hand kept.picked
  pub heap : IsHeapOfCase p action kept picked h
  pub stays : ¬ IsDroppedCase p mode action kept

abbrev pub FairStepsAreKept : Type 0
FairStepsAreKept =
    (p : ProgramForm) → IsValid p → (mode : Mode) (action : ActionForm) → Contains p.actions action
    → (s : StructureForm) (at_hand : List StructureForm) → AreAtHand p (focus_places action.focus) s at_hand
    → (picked : Assignment) (old new : Heap) → IsStartOf p s old → FairlySteps p mode action picked old new
    → IsKept p mode action s picked old
