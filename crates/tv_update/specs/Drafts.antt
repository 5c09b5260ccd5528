-- What contracts say of a plan in the making.
use Rattle.std.specs.Prelude.{map}
use Rattle.tv_model.specs.Program.{ProgramForm, program_of, action_of}
use Rattle.tv_update.specs.declared.application.Application.{Application}
use Rattle.tv_update.specs.declared.draft.Draft.{Draft}
use Rattle.tv_update.specs.declared.draft.Ready.{Ready}
use Rattle.tv_update.specs.Plan.{IsPlanSoFar, CanSettle}

-- the draft is of the plan of what is applied
abbrev pub IsDraftOf : Application → Draft → Type 0
IsDraftOf applied draft =
    IsPlanSoFar (program_of applied.program.now) applied.mode (action_of applied.action.now)
    draft.waiting.items draft.changed.items (map (λ p. p.0) draft.plan.items)

-- the predicate is one with which the draft can go on
abbrev pub IsReadyIn : ProgramForm → Draft → Ready → Type 0
IsReadyIn p draft ready =
    CanSettle p draft.waiting.items draft.changed.items ready.pred.0 ready.is_touched
