-- Runs of the compiled program are those of the program with updates.
use Rattle.std.proofs.Common.{ℕ, ◌≡◌, ◌⊎◌, ◌∙◌, List, [], ◌∷◌, Option, Some, None, slice_get, inl, inr, sym}
use Rattle.std.proofs.Common.{ap}
use Rattle.std.proofs.Common.{refl}
use Rattle.tv_model.specs.declared.program.Mode.{Mode}
use Rattle.tv_model.specs.Heap.{Heap}
use Rattle.tv_model.specs.Program.{ActionForm, MessageForm}
use Rattle.tv_model.specs.Rules.{IsConcrete}
use Rattle.tv_model.specs.Run.{GoesOn, IsRun, Stage}
use Rattle.tv_source.specs.Forms.{AssignForm, SourceForm}
use Rattle.tv_source.specs.Valid.{IsSource}
use Rattle.tv_plang_laws.specs.Compiled.{compiled, node_at}
use Rattle.tv_plang_laws.specs.Laws.{HasRunThrough, HasTrueMessage, NullsAreTold, SourceRunsAreRuns}
use Rattle.tv_plang_laws.specs.Steps.{position}
use Rattle.tv_updates_laws.specs.Laws.{NullsAreToldWithUpdates, SourceRunsAreUpdatedRuns, UpdatesAreExact}
use Rattle.tv_updates_laws.specs.Updated.{all_assigned, updated_program, with_reaches}
use Rattle.tv_updates_laws.proofs.Pairings.{HasPair}
use Rattle.tv_updates_laws.proofs.Steps.{fair-back, fair-there, pair-of, start-back, start-there}

goes-there : (p : SourceForm) → IsSource p → (mode : Mode) (node : ℕ) (h : Heap) (stages : List Stage)
    → IsConcrete (compiled p) h
    → GoesOn (compiled p) mode node h stages → GoesOn (updated_program p) mode node h stages
goes-there p valid mode node h [] concrete goes = tt
goes-there p valid mode node h (stage ∷ later) concrete goes = (
  goes.0,
  goes.1,
  fair-there p valid mode stage.edge h stage.heap concrete goes.2,
  goes-there p valid mode stage.edge.to stage.heap later goes.2.fair.1.step.concrete goes.3,
)

goes-back : (p : SourceForm) → IsSource p → (mode : Mode) (node : ℕ) (h : Heap) (stages : List Stage)
    → GoesOn (updated_program p) mode node h stages → GoesOn (compiled p) mode node h stages
goes-back p valid mode node h [] goes = tt
goes-back p valid mode node h (stage ∷ later) goes = (
  goes.0,
  goes.1,
  fair-back p valid mode stage.edge h stage.heap goes.2,
  goes-back p valid mode stage.edge.to stage.heap later goes.3,
)

pub run-there : (p : SourceForm) → IsSource p → (mode : Mode) (start : Heap) (stages : List Stage)
    → IsRun (compiled p) mode start stages → IsRun (updated_program p) mode start stages
run-there p valid mode start stages run = record {
  begins = start-there p start run.begins;
  goes_on = goes-there p valid mode 0 start stages run.begins.concrete run.goes_on;
}

pub run-back : (p : SourceForm) → IsSource p → (mode : Mode) (start : Heap) (stages : List Stage)
    → IsRun (updated_program p) mode start stages → IsRun (compiled p) mode start stages
run-back p valid mode start stages run = record {
  begins = start-back p start run.begins;
  goes_on = goes-back p valid mode 0 start stages run.goes_on;
}

pub updates_are_exact : UpdatesAreExact
updates_are_exact p valid mode start stages = (
  λ run. run-there p valid mode start stages run,
  λ run. run-back p
      valid mode start stages run,
)

pub source_runs_are_updated_runs : SourceRunsAreRuns → SourceRunsAreUpdatedRuns
source_runs_are_updated_runs runs p valid mode s later start goes h heaps is are =
    let has : HasRunThrough (compiled p) p mode s later h heaps = runs p valid mode s later start goes h heaps is are
    in record {
      stages = has.stages;
      is_run = run-there p valid mode h has.stages has.is_run;
      through = has.through;
      stage_by_stage = has.stage_by_stage;
      brings = has.brings;
    }

-- ---- messages

pub same-messages : (p : SourceForm) (o : Option AssignForm) (action : ActionForm)
    → (with_reaches p o action).messages ≡ action.messages
same-messages p None action = refl
same-messages p (Some a) action = refl

-- an action's messages are those of its pair
message-there : (p : SourceForm) → IsSource p → (node : ℕ) (h : Heap) → HasTrueMessage (compiled p) node h
    → HasTrueMessage (updated_program p) node h
message-there p valid node h has = by (pair-of p valid has.taken.action)
  where
    the-same : (a b : ActionForm) → Some a ≡ Some b → a ≡ b
    the-same a b e = cc e

    by : ((slice_get (compiled p).actions has.taken.action ≡ None) × (slice_get (updated_program p).actions
        has.taken.action ≡ None))
        ⊎ HasPair p (all_assigned p.body) (compiled p).actions has.taken.action
        → HasTrueMessage (updated_program p) node h
    by (inl none) = absurd (cc (sym none.0 ∙ has.its_action))
    by (inr pair) =
        let same : has.action ≡ pair.action = the-same has.action pair.action (sym has.its_action ∙ pair.before)
        in record {
          edge = has.edge;
          taken = has.taken;
          action = with_reaches p pair.assign pair.action;
          message = has.message;
          its_edge = has.its_edge;
          leaves = has.leaves;
          its_action = pair.after;
          its_message =
              ap (λ (ms : List MessageForm). slice_get ms 0) (same-messages p pair.assign pair.action
              ∙ ap (λ (a : ActionForm). a.messages) (sym same)) ∙ has.its_message;
          is_true = has.is_true;
        }

pub nulls_are_told_with_updates : NullsAreTold → NullsAreToldWithUpdates
nulls_are_told_with_updates told p valid s later start goes t among z meets h is =
    message-there p valid (node_at p (position p t)) h (told p valid s later start goes t among z meets h is)
