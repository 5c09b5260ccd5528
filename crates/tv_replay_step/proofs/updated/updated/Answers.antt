use Rattle.std.proofs.Common.{◌∷◌, ◌∙◌, []}
use Rattle.std.proofs.lemmas.Result.{IfOk-weaker}
use Rattle.tv_eval.specs.AssignmentForm.{assignment_of}
use Rattle.tv_model.specs.declared.program.Mode.TheVariants.{Given}
use Rattle.tv_update.specs.Update.{IsGivenOf}
use Rattle.tv_replay_step.specs.Turns.{action_along, program_in}
use Rattle.tv_replay_step.specs.Updated.{IsUpdatedTo}
use Rattle.tv_replay_step.proofs.Applied.{grown-ready, same-ready}
use Rattle.tv_replay_step.proofs.updated.updated.Goals as goal

pub updated_in-requires-clause-over : goal.updated_in-requires-clause-over
updated_in-requires-clause-over c =
    (grown-ready (program_in c.args.turn.now) (action_along c.args.turn.now) c.args.s.now
    c.args.picks.now c.requires.can c.args.turn.now.action.now.fresh c.requires.fresh c.if-turn.true
    c.in_ok-middle.middle c.in_ok-middle.ensures.value).over ∙ c.requires.over

pub updated_in-requires-clause-picks : goal.updated_in-requires-clause-picks
updated_in-requires-clause-picks c =
    (grown-ready (program_in c.args.turn.now) (action_along c.args.turn.now) c.args.s.now
    c.args.picks.now c.requires.can c.args.turn.now.action.now.fresh c.requires.fresh c.if-turn.true
    c.in_ok-middle.middle c.in_ok-middle.ensures.value).picks

pub updated_in-requires-clause-settled : goal.updated_in-requires-clause-settled
updated_in-requires-clause-settled c =
    (grown-ready (program_in c.args.turn.now) (action_along c.args.turn.now) c.args.s.now
    c.args.picks.now c.requires.can c.args.turn.now.action.now.fresh c.requires.fresh c.if-turn.true
    c.in_ok-middle.middle c.in_ok-middle.ensures.value).settled

pub updated_in-requires-clause-one : goal.updated_in-requires-clause-one
updated_in-requires-clause-one c =
    (grown-ready (program_in c.args.turn.now) (action_along c.args.turn.now) c.args.s.now
    c.args.picks.now c.requires.can c.args.turn.now.action.now.fresh c.requires.fresh c.if-turn.true
    c.in_ok-middle.middle c.in_ok-middle.ensures.value).one

pub updated_in-requires-else-turn-clause-settled : goal.updated_in-requires-else-turn-clause-settled
updated_in-requires-else-turn-clause-settled c =
    (same-ready (program_in c.args.turn.now) (action_along c.args.turn.now) c.args.s.now
    c.args.picks.now c.requires.can c.args.turn.now.action.now.fresh c.requires.fresh c.if-turn.false).settled

pub updated_in-requires-else-turn-clause-one : goal.updated_in-requires-else-turn-clause-one
updated_in-requires-else-turn-clause-one c =
    (same-ready (program_in c.args.turn.now) (action_along c.args.turn.now) c.args.s.now
    c.args.picks.now c.requires.can c.args.turn.now.action.now.fresh c.requires.fresh c.if-turn.false).one

pub returns-in_ok-middle-clause-updated : goal.returns-in_ok-middle-clause-updated
returns-in_ok-middle-clause-updated c =
    IfOk-weaker c.updated_in.result
    (λ t. IsGivenOf (program_in c.args.turn.now) Given (action_along c.args.turn.now) (assignment_of c.args.picks.now)
    c.in_ok-middle.middle (t ∷ []))
    (IsUpdatedTo (program_in c.args.turn.now) (action_along c.args.turn.now) (assignment_of c.args.picks.now) c.args.s.now)
    (grown-ready (program_in c.args.turn.now) (action_along c.args.turn.now) c.args.s.now
    c.args.picks.now c.requires.can c.args.turn.now.action.now.fresh c.requires.fresh c.if-turn.true
    c.in_ok-middle.middle c.in_ok-middle.ensures.value).makes c.updated_in.ensures.given

pub returns-else-turn-clause-updated : goal.returns-else-turn-clause-updated
returns-else-turn-clause-updated c =
    IfOk-weaker c.updated_in-else-turn.result
    (λ t. IsGivenOf (program_in c.args.turn.now) Given (action_along c.args.turn.now) (assignment_of c.args.picks.now)
    c.args.s.now (t ∷ []))
    (IsUpdatedTo (program_in c.args.turn.now) (action_along c.args.turn.now) (assignment_of c.args.picks.now) c.args.s.now)
    (same-ready (program_in c.args.turn.now) (action_along c.args.turn.now) c.args.s.now
    c.args.picks.now c.requires.can c.args.turn.now.action.now.fresh c.requires.fresh c.if-turn.false).makes c.updated_in-else-turn.ensures.given
