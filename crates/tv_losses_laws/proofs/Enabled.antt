-- Heaps of a structure at hand have individuals for its cases, and the precondition is true of these.
use Rattle.std.specs.Prelude.{IfSome}
use Rattle.std.proofs.Common.{ℕ, ◌≡◌, Option, None, Some, ⊎_elim, sym, subst, Contains}
use Rattle.std.proofs.lemmas.List.Elements.{All-contains}
use Rattle.tv_kleene.specs.declared.K3.TheVariants.{Yes}
use Rattle.tv_model.specs.Form.{Form}
use Rattle.tv_model.specs.Heap.{Heap}
use Rattle.tv_model.specs.Program.{ProgramForm, ActionForm}
use Rattle.tv_model.specs.Run.{IsStart}
use Rattle.tv_model.specs.Truth.{Assignment, Truth}
use Rattle.tv_model.specs.Valid.{IsAction, IsPrecondition, free_occurrences}
use Rattle.tv_model.proofs.Decided.{Contains-decided}
use Rattle.tv_model.proofs.Lists.{All-from_contains}
use Rattle.tv_model.proofs.Parts.{first-occurs}
use Rattle.tv_embedding_laws.specs.LogicalStructure.{heap_structure}
use Rattle.tv_embedding_laws.specs.Embedding.{Embeds}
use Rattle.tv_eval_laws.specs.Laws.{TakesAlong, TellsOfHeap}
use Rattle.tv_eval_laws.specs.Value.{value}
use Rattle.tv_eval_laws.proofs.Embedded.{embeds-for}
use Rattle.tv_eval_laws.proofs.InHeaps.{definite_values_are_sound}
use Rattle.tv_structure_form.specs.StructureForm.{StructureForm, structure_of}
use Rattle.tv_update_laws.specs.Picks.{picks_of, precondition_value}
use Rattle.tv_update_laws.proofs.Preconditions.{free-occurs}
use Rattle.tv_step_laws.proofs.Picked.{lists-inside, picked-inside}
use Rattle.tv_losses_laws.specs.Cases.{CaseForm, IsSureCase, IsHeapOfCase}
use Rattle.tv_losses_laws.specs.Laws.{HeapsTakeCases}

-- ---- individuals to pick

module _ (p : ProgramForm) (action : ActionForm) (s : StructureForm) (c : CaseForm) (is : IsSureCase p action s c)
    (h : Heap) (start : IsStart p h) (place : ℕ → ℕ)
    (embeds : Embeds place (heap_structure h) (structure_of c.at_hand)) where
  inside : (v : ℕ) → Contains action.picks v
      → Contains (structure_of c.at_hand).individuals (picks_of action c.picked v)
  inside v at =
      All-contains (λ (x : ℕ). Contains (structure_of c.at_hand).individuals (picks_of action c.picked x))
      action.picks v
      (picked-inside action (structure_of c.at_hand) c.picked
      (lists-inside (structure_of c.at_hand).individuals _ c.picked is.listed)) at

  found : (v : ℕ) → Contains action.picks v
      → (u : ℕ) × Contains h.individuals u × (place u ≡ picks_of action c.picked v)
  found v at = embeds.onto (picks_of action c.picked v) (inside v at)

  chosen : (v : ℕ) → (u : ℕ)
      × (Contains action.picks v → Contains h.individuals u × (place u ≡ picks_of action c.picked v))
  chosen v =
      ⊎_elim
      (λ at. ((found v at).0, λ has. ((found v at).1, (found v at).2)))
      (λ none. (0, λ has. absurd (none has)))
      (Contains-decided action.picks v)

  pub has-case : (picked : Assignment) × IsHeapOfCase p action c picked h
  has-case = (
    λ v. (chosen v).0,
    record {
      start = start;
      place = place;
      embeds = embeds;
      picks = All-from_contains (λ v. Contains h.individuals (chosen v).0) action.picks
          (λ v at. ((chosen v).1 at).0);
      takes = λ v at. ((chosen v).1 at).1;
    },
  )

-- ---- the precondition

pub case-enabled : (p : ProgramForm) (action : ActionForm) → IsAction p action
    → (s : StructureForm) (c : CaseForm) → IsSureCase p action s c
    → (h : Heap) (picked : Assignment) → IsHeapOfCase p action c picked h
    → IfSome action.pre (Truth h picked)
case-enabled p action valid s c is h picked of = by_pre action.pre valid.precondition is.enabled
  where
    by_pre : (pre : Option Form) → IsPrecondition p pre action.picks
        → precondition_value (structure_of c.at_hand) (picks_of action c.picked) pre ≡ Yes
        → IfSome pre (Truth h picked)
    by_pre None plain sure = tt
    by_pre (Some f) plain sure =
        let along : TakesAlong of.place (heap_structure h) f picked (picks_of action c.picked)
        = λ v free. let in_picks : Contains action.picks v
        = subst (λ xs. Contains xs v) (sym plain.1)
        (first-occurs (free_occurrences f) v (free-occurs f v free))
        in (
          All-contains (λ (x : ℕ). Contains h.individuals (picked x)) action.picks v of.picks in_picks,
          of.takes v in_picks,
        )
        in let tells : TellsOfHeap h picked f (value (structure_of c.at_hand) (picks_of action c.picked) f)
        = definite_values_are_sound f of.place h (structure_of c.at_hand) picked (picks_of action c.picked)
        (embeds-for f of.place (heap_structure h) (structure_of c.at_hand) of.embeds
        (λ n. absurd (plain.0.1 n))) along
        in tells.yes sure

pub heaps-take_cases : HeapsTakeCases
heaps-take_cases p valid action has s c is h start = record {
  some = λ heap. has-case p action s c is h start heap.0 heap.1;
  enabled = λ picked of.
      case-enabled p action (All-contains (IsAction p) p.actions action valid.actions has) s c is h picked of;
}
