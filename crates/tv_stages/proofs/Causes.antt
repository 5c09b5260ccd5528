-- Budgets of a step that its stages meet.
use Rattle.std.proofs.Common.{ℕ, ◌∙◌, ◌⊎◌, List, ◌∷◌, map, inl, inr, sym, ap}
use Rattle.std.proofs.Common.{Contains}
use Rattle.std.proofs.lemmas.List.{map-append}
use Rattle.tv_model.specs.Program.{ProgramForm, ActionForm}
use Rattle.tv_structure_form.specs.StructureForm.{StructureForm}
use Rattle.tv_struct.specs.declared.analysis.StageError.{StageError}
use Rattle.tv_struct.specs.declared.analysis.StageError.TheVariants.{Splits, Individuals, Memory}
use Rattle.tv_step_laws.specs.Budgets.{HasTurn, IsFocused, HasManyPicks, HasManyKept, IsStepCause}
use Rattle.tv_step_laws.specs.Transfer.{IsActionOf}
use Rattle.tv_step.specs.Steps.{IsCauseOfUpdate, IsCauseOfUpdates}
use Rattle.tv_stages_laws.specs.declared.record.Fate.{Fate}
use Rattle.tv_stages_laws.specs.declared.record.FocusRow.{FocusRow}
use Rattle.tv_stages_laws.specs.Stages.{IsFate, kept_by, NumberedPlace, places_from, AreFocusRows}
use Rattle.tv_stages_laws.proofs.Recorded.{fate-coerces, places-are, rows-at-hand, rows-focused}
use Rattle.tv_stages.specs.Turns.{StopsAt, StopsFocus}

module _ (p : ProgramForm) (edge : ℕ) (action : ActionForm) (its : IsActionOf p edge action) (s : StructureForm)
    (fate : Fate) (is : IsFate p s fate) where
  -- a turn that can't be taken comes where its structures are at hand
  stops-turn : (e : StageError) (stops : StopsAt p (places_from 0 action.focus) (kept_by fate) e)
      → (t : StructureForm) → Contains stops.at_hand t → HasTurn p action s stops.turn.place t
  stops-turn e stops t there = record {
    before = map (λ turn. turn.place) stops.before;
    after = map (λ turn. turn.place) stops.after;
    turn = sym (places-are 0 action.focus) ∙ ap (map (λ (turn : NumberedPlace). turn.place)) stops.comes
        ∙ map-append (λ (turn : NumberedPlace). turn.place) stops.before (stops.turn ∷ stops.after);
    at_hand = stops.at_hand;
    are_at_hand = (
      kept_by fate,
      fate-coerces p s fate is,
      rows-focused p stops.before (kept_by fate) stops.rows stops.at_hand stops.are,
    );
    there = there;
  }

  pub focus-cause : (e : StageError) → StopsFocus p (places_from 0 action.focus) (kept_by fate) e
      → IsStepCause p edge s e
  focus-cause Splits stops =
      let found = stops.is_cause
      in record {
        action = action;
        its_action = its;
        many = inl (
          stops.turn.place,
          found.1,
          stops-turn Splits stops found.1 (found.0, found.2, found.3),
          found.4,
        );
      }
  focus-cause Individuals stops =
      let found = stops.is_cause
      in record {
        action = action;
        its_action = its;
        large = inl (
          stops.turn.place,
          found.1,
          stops-turn Individuals stops found.1 (found.0, found.2, found.3),
          found.4,
        );
      }
  focus-cause Memory stops = tt

  module _ (rows : List FocusRow) (at_hand : List StructureForm)
      (are : AreFocusRows p (places_from 0 action.focus) (kept_by fate) rows at_hand) where
    at-hand : (t : StructureForm) → Contains at_hand t → IsFocused p action s t
    at-hand t there = (at_hand, rows-at-hand p action.focus s fate rows at_hand is are, there)

    picks-split : (t : StructureForm) → IsFocused p action s t → IsCauseOfUpdate action t Splits
        → HasManyPicks p action s ⊎ HasManyKept p action s
    picks-split t focused (inl many) = inl (t, focused, many)
    picks-split t focused (inr (k, picked, lt, same, many)) =
        inr (t, picked, record { is_focused = focused; passes = (k, lt, same) }, many)

    pub update-cause : (e : StageError) → IsCauseOfUpdates action at_hand e → IsStepCause p edge s e
    update-cause Splits (k, t, lt, same, cause) =
        record { action = action; its_action = its; many = inr (picks-split t (at-hand t (k, lt, same)) cause) }
    update-cause Individuals (k, t, lt, same, (j, picked, below, there, large)) =
        record {
          action = action;
          its_action = its;
          large = inr (
            t,
            picked,
            record { is_focused = at-hand t (k, lt, same); passes = (j, below, there) },
            large,
          );
        }
    update-cause Memory cause = tt
