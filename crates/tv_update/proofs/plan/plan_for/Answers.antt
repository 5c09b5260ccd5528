use Rattle.std.proofs.Common.{subst, sym}
use Rattle.std.proofs.lemmas.List.Elements.{All-contains}
use Rattle.tv_model.specs.Program.{ActionForm, program_of, action_of}
use Rattle.tv_model.specs.Valid.{IsAction}
use Rattle.tv_update.specs.Plan.{IsPlanFor}
use Rattle.tv_update.proofs.Answered.{action_is, holds_action}
use Rattle.tv_update.proofs.plan.plan_for.Goals as goal

pub changed_definitions-requires-clause-action : goal.changed_definitions-requires-clause-action
changed_definitions-requires-clause-action c =
    All-contains (IsAction (program_of c.args.program.now)) (program_of c.args.program.now).actions
    (action_of c.index-as_slice-action.result) c.requires.valid.actions
    (holds_action c.args.program.now c.as_slice.result.now c.args.action c.index-as_slice-action.result
    c.as_slice.ensures c.requires.action c.index-as_slice-action.is)

pub returns : goal.returns
returns c =
    subst (λ (a : ActionForm). IsPlanFor (program_of c.args.program.now) c.args.mode a c.from_vec.result)
    (action_is c.args.program.now c.as_slice.result.now c.args.action c.index-as_slice-action.result
    c.as_slice.ensures c.requires.action c.index-as_slice-action.is)
    (subst (IsPlanFor (program_of c.args.program.now) c.args.mode (action_of c.index-as_slice-action.result))
    (sym c.from_vec.ensures) c.in_ok-plan.ensures)
