use Rattle.std.proofs.Common.{◌∙◌, refl, subst, sym}
use Rattle.tv_lemmas.proofs.Options.{IfErr-same}
use Rattle.tv_step.specs.Steps.{IsFocusCause}
use Rattle.tv_stages.specs.Tasks.{task_program}
use Rattle.tv_stages.specs.Turns.{CanFocus, turn_of, turn_place}
use Rattle.tv_stages.proofs.Turning.{turned-one}
use Rattle.tv_stages.proofs.turn.take_turn.Goals as goal

pub focused_each-requires : goal.focused_each-requires
focused_each-requires c =
    subst (CanFocus c.args.x.now c.args.tools.now c.args.turn.now) (sym c.as_slice.ensures) c.requires

pub returns-in_err-at_hand-clause-cause : goal.returns-in_err-at_hand-clause-cause
returns-in_err-at_hand-clause-cause c =
    let place = turn_place c.args.turn.now
    in let e = c.in_err-at_hand.field-0.0
    in IfErr-same (IsFocusCause place c.args.progress.now.at_hand) c.from_residual.result e c.from_residual.ensures.1
    (subst (λ ss. IsFocusCause place ss e) c.as_slice.ensures c.in_err-at_hand.ensures.cause)

pub returns-clause-turned : goal.returns-clause-turned
returns-clause-turned c =
    let turn = c.args.turn.now
    in turned-one (task_program c.args.x.now) (turn_of turn) c.args.progress.now
    (record { rows = c.push.new.self; at_hand = c.in_ok-progress.field-0 })
    (record { formula = turn.number; atom = turn.atom; at_hand = c.in_ok-at_hand.at_hand })
    (record {
      formula = refl;
      atom = refl;
      at_hand = c.in_ok-at_hand.ensures.at_hand ∙ c.as_slice.ensures;
      each = c.in_ok-at_hand.ensures.focused;
    })
    c.in_ok-push.ensures c.in_ok-progress.ensures
