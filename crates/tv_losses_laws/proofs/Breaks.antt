-- A step from a heap of a lost case breaks a claim.
use Rattle.std.proofs.Common.{◌≡◌, List, map, sym, subst, Contains}
use Rattle.std.proofs.lemmas.List.Elements.{All-contains}
use Rattle.tv_model.specs.declared.program.Mode.{Mode}
use Rattle.tv_model.specs.Heap.{Heap}
use Rattle.tv_model.specs.Program.{ProgramForm, ActionForm}
use Rattle.tv_model.specs.Step.{FairlySteps}
use Rattle.tv_model.specs.Truth.{Assignment}
use Rattle.tv_model.specs.Valid.{IsValid}
use Rattle.tv_model.proofs.Lists.{Contains-map_back, slice_get-contains}
use Rattle.tv_embedding_laws.specs.LogicalStructure.{LogicalStructure}
use Rattle.tv_embedding_laws.specs.Embedding.{IsHeapOf}
use Rattle.tv_structure_form.specs.StructureForm.{StructureForm, structure_of}
use Rattle.tv_update_laws.specs.Laws.{StepsFrom}
use Rattle.tv_update_laws.specs.Picks.{picks_of}
use Rattle.tv_update_laws.proofs.Choices.{update_loses_no_heap}
use Rattle.tv_step_laws.specs.Transfer.{GivesStructures, HasNoOpening}
use Rattle.tv_step_laws.proofs.Heaps.{action-once, opening-heap}
use Rattle.tv_losses_laws.specs.Cases.{CaseForm, IsDroppedCase, IsHeapOfCase}
use Rattle.tv_losses_laws.specs.Laws.{BreaksClaims, LostCasesBreakClaims}

-- the new heap of a fair step from a heap of the case embeds in a structure that the update gives
pub given-heap : (p : ProgramForm) → IsValid p → (mode : Mode) (action : ActionForm) → Contains p.actions action
    → (c : CaseForm) (picked : Assignment) (h new : Heap) → IsHeapOfCase p action c picked h
    → FairlySteps p mode action picked h new
    → (given : List StructureForm) → GivesStructures p mode action c.at_hand c.picked given
    → (u : StructureForm) × Contains given u × IsHeapOf new (structure_of u)
given-heap p valid mode action has c picked h new of steps given are =
    let from : StepsFrom p mode action (structure_of c.at_hand) (picks_of action c.picked) new
    = record {
      m = of.place;
      old = h;
      picked = picked;
      embeds = of.embeds;
      concrete = of.start.concrete;
      takes = of.takes;
      steps = steps;
    }
    in let found : (l : LogicalStructure) × Contains (map structure_of given) l × IsHeapOf new l
    = update_loses_no_heap p valid mode action has (structure_of c.at_hand) (picks_of action c.picked) new from
    (map structure_of given) are.0
    in let table : (u : StructureForm) × Contains given u × (structure_of u ≡ found.0)
    = Contains-map_back structure_of given found.0 found.1
    in (table.0, table.1, subst (IsHeapOf new) (sym table.2) found.2)

pub dropped-unfair : (p : ProgramForm) → IsValid p → (mode : Mode) (action : ActionForm) → Contains p.actions action
    → (c : CaseForm) → IsDroppedCase p mode action c
    → (picked : Assignment) (h : Heap) → IsHeapOfCase p action c picked h
    → (new : Heap) → ¬ FairlySteps p mode action picked h new
dropped-unfair p valid mode action has c lost picked h of new steps =
    let found : (u : StructureForm) × Contains lost.given u × IsHeapOf new (structure_of u)
    = given-heap p valid mode action has c picked h new of steps lost.given lost.are_given
    in (opening-heap p valid new (record {
      is_heap = steps.1.step.new_heap;
      concrete = steps.1.step.concrete;
      meets = steps.1.new_meets;
    }) found.0 found.2).0
    (All-contains (HasNoOpening p) lost.given found.0 lost.none found.1)

pub dropped-breaks : (p : ProgramForm) → IsValid p → (mode : Mode) (action : ActionForm)
    → Contains p.actions action
    → (c : CaseForm) → IsDroppedCase p mode action c
    → (picked : Assignment) (h : Heap) → IsHeapOfCase p action c picked h
    → BreaksClaims p mode action picked h
dropped-breaks p valid mode action has c lost picked h of = record {
  broken = λ middle new step claims.
      dropped-unfair p valid mode action has c lost picked h of new (
        middle,
        record {
          step = step;
          given = claims.given;
          old_meets = of.start.meets;
          new_meets = claims.meets;
        },
      );
  unfair = dropped-unfair p valid mode action has c lost picked h of;
}

pub lost-breaks : LostCasesBreakClaims
lost-breaks p valid mode edge s c lost action its picked h of =
    let same : lost.action ≡ action = action-once p edge lost.action action lost.its_action its
    in dropped-breaks p valid mode action (slice_get-contains p.actions its.taken.action action its.its_action) c
    (subst (λ a. IsDroppedCase p mode a c) same lost.dropped) picked h of
