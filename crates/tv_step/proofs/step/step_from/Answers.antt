use Rattle.std.proofs.Common.{◌≡◌, ◌∙◌, inr, map, ap, sym, subst}
use Rattle.std.specs.Prelude.{List}
use Rattle.tv_lemmas.proofs.Options.{IfErr-same}
use Rattle.tv_model.specs.Program.{message_of}
use Rattle.tv_step.specs.declared.job.Job.{Job}
use Rattle.tv_step.specs.Job.{action_in}
use Rattle.tv_step.specs.Setting.{form_in}
use Rattle.tv_step.specs.Steps.{AreFocusedWithin, IsCauseOfStep}
use Rattle.tv_model.specs.Program.{ProgramForm}
use Rattle.tv_structure_form.specs.StructureForm.{StructureForm}
use Rattle.tv_step_laws.specs.Transfer.{focus_places, message_value}
use Rattle.tv_step.proofs.Stepping.{action-messages, action-room, given-unmarked, results-of}
use Rattle.tv_step.proofs.Stepping.{within-shaped, within-stable}
use Rattle.tv_step.proofs.Turns.{focused-are}
use Rattle.tv_step.proofs.step.step_from.Goals as goal

-- what is at hand after the action's turns
at-hand : (p : ProgramForm) (job : Job) (start found at_hand : List StructureForm)
    → AreFocusedWithin p (focus_places (action_in job).focus) start found → at_hand ≡ found
    → AreFocusedWithin p (focus_places (action_in job).focus) start at_hand
at-hand p job start found at_hand within there =
    subst (AreFocusedWithin p (focus_places (action_in job).focus) start) (sym there) within

pub values_of-requires-clause-messages : goal.values_of-requires-clause-messages
values_of-requires-clause-messages c =
    let job = c.args.job.now
    in action-messages (form_in c.args.x.now) c.requires.ready.valid job.number (action_in job)
    c.requires.job.action c.as_slice.result.now (ap (map message_of) c.as_slice.ensures)

pub values_of-requires-clause-room : goal.values_of-requires-clause-room
values_of-requires-clause-room c =
    let job = c.args.job.now
    in action-room (form_in c.args.x.now) job.number (action_in job) c.requires.job.action
    c.as_slice.result.now (ap (map message_of) c.as_slice.ensures)

pub values_of-requires-clause-shaped : goal.values_of-requires-clause-shaped
values_of-requires-clause-shaped c =
    within-shaped (form_in c.args.x.now) _ c.args.start.now c.at_hand-at_hand.result.now
    (at-hand _ c.args.job.now _ _ _ c.in_ok-found.ensures.out c.at_hand-at_hand.ensures) c.requires.shaped

pub given-requires-clause-stable : goal.given-requires-clause-stable
given-requires-clause-stable c =
    within-stable (form_in c.args.x.now) _ c.args.start.now c.at_hand-at_hand.result.now
    (at-hand _ c.args.job.now _ _ _ c.in_ok-found.ensures.out c.at_hand-at_hand.ensures) c.requires.stable

pub given-requires-clause-shaped : goal.given-requires-clause-shaped
given-requires-clause-shaped c =
    within-shaped (form_in c.args.x.now) _ c.args.start.now c.at_hand-at_hand.result.now
    (at-hand _ c.args.job.now _ _ _ c.in_ok-found.ensures.out c.at_hand-at_hand.ensures) c.requires.shaped

pub returns-in_err-given-clause-cause : goal.returns-in_err-given-clause-cause
returns-in_err-given-clause-cause c =
    let p = form_in c.args.x.now
    in let job = c.args.job.now
    in let action = action_in job
    in let start = c.args.start.now
    in let at_hand = c.at_hand-at_hand.result.now
    in let e = c.in_err-given.field-0.0
    in let within = at-hand _ c.args.job.now _ _ _ c.in_ok-found.ensures.out c.at_hand-at_hand.ensures
    in IfErr-same (IsCauseOfStep p action start) c.from_residual-in_err-given.result e
    c.from_residual-in_err-given.ensures.1
    (inr (record {
      at_hand = at_hand;
      are_focused = focused-are p (focus_places action.focus) start at_hand within;
      is_cause = c.in_err-given.ensures.cause;
    }))

pub in_order-requires : goal.in_order-requires
in_order-requires c = record {
  unmarked = given-unmarked (form_in c.args.x.now) c.args.x.now.mode (action_in c.args.job.now)
      c.at_hand-at_hand.result.now c.in_ok-given.given c.in_ok-given.ensures.out;
}

pub returns-clause-results : goal.returns-clause-results
returns-clause-results c =
    let p = form_in c.args.x.now
    in let job = c.args.job.now
    in let action = action_in job
    in let start = c.args.start.now
    in let at_hand = c.at_hand-at_hand.result.now
    in let within = at-hand _ c.args.job.now _ _ _ c.in_ok-found.ensures.out c.at_hand-at_hand.ensures
    in results-of p c.args.x.now.mode action start at_hand c.in_ok-given.given c.in_ok-results.results within
    c.in_ok-given.ensures.out c.in_ok-given.ensures.within c.in_ok-results.ensures.same
    c.in_ok-results.ensures.order

pub returns-clause-values : goal.returns-clause-values
returns-clause-values c =
    let p = form_in c.args.x.now
    in let job = c.args.job.now
    in let action = action_in job
    in let start = c.args.start.now
    in let at_hand = c.at_hand-at_hand.result.now
    in let within = at-hand _ c.args.job.now _ _ _ c.in_ok-found.ensures.out c.at_hand-at_hand.ensures
    in record {
      at_hand = at_hand;
      are_focused = focused-are p (focus_places action.focus) start at_hand within;
      are = c.in_ok-messages.ensures.values
          ∙ ap (λ ms. map (message_value at_hand) (map message_of ms)) c.as_slice.ensures;
    }
