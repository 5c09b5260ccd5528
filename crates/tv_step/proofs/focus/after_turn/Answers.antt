use Rattle.std.proofs.Common.{All, sym, subst}
use Rattle.tv_lemmas.proofs.Options.{IfErr-same}
use Rattle.tv_step_laws.specs.Parts.{AreFrom}
use Rattle.tv_step_laws.specs.Shaped.{IsShaped}
use Rattle.tv_step_laws.specs.Transfer.{Focuses}
use Rattle.tv_step.specs.Places.{focus_place}
use Rattle.tv_step.specs.Setting.{form_in, IsStableIn}
use Rattle.tv_step.specs.Steps.{IsFocusCause, KeepsLimits}
use Rattle.tv_step.proofs.focus.after_turn.Goals as goal

pub are_known-requires-clause-shaped : goal.are_known-requires-clause-shaped
are_known-requires-clause-shaped c =
    subst (All (IsShaped (form_in c.args.x.now))) (sym c.at_hand.ensures) c.requires.shaped

pub are_known-requires-clause-stable : goal.are_known-requires-clause-stable
are_known-requires-clause-stable c =
    subst (All (IsStableIn (form_in c.args.x.now))) (sym c.at_hand.ensures) c.requires.stable

pub returns-then-branch-clause-out : goal.returns-then-branch-clause-out
returns-then-branch-clause-out c =
    subst (λ ss. AreFrom (Focuses (form_in c.args.x.now) (focus_place c.args.turn.now)) ss ss) c.at_hand.ensures
    (c.in_ok-are_known.ensures.out c.if-branch.true)

pub returns-then-branch-clause-within : goal.returns-then-branch-clause-within
returns-then-branch-clause-within c =
    subst (KeepsLimits (focus_place c.args.turn.now)) c.at_hand.ensures
    (c.in_ok-are_known.ensures.within c.if-branch.true)

pub focus_all-requires-clause-shaped : goal.focus_all-requires-clause-shaped
focus_all-requires-clause-shaped c =
    subst (All (IsShaped (form_in c.args.x.now))) (sym c.in_ok-at_hand.ensures) c.requires.shaped

pub focus_all-requires-clause-stable : goal.focus_all-requires-clause-stable
focus_all-requires-clause-stable c =
    subst (All (IsStableIn (form_in c.args.x.now))) (sym c.in_ok-at_hand.ensures) c.requires.stable

pub returns-in_err-focus_all-clause-cause : goal.returns-in_err-focus_all-clause-cause
returns-in_err-focus_all-clause-cause c =
    let place = focus_place c.args.turn.now
    in let e = c.in_err-focus_all.field-0.0
    in IfErr-same (IsFocusCause place _) c.from_residual-in_err-focus_all.result e
    c.from_residual-in_err-focus_all.ensures.1
    (subst (λ ss. IsFocusCause place ss e) c.in_ok-at_hand.ensures c.in_err-focus_all.ensures.cause)

pub returns-clause-out : goal.returns-clause-out
returns-clause-out c =
    subst (λ ss. AreFrom (Focuses (form_in c.args.x.now) (focus_place c.args.turn.now)) ss c.in_ok-focus_all.field-0)
    c.in_ok-at_hand.ensures c.in_ok-focus_all.ensures.out

pub returns-clause-within : goal.returns-clause-within
returns-clause-within c =
    subst (KeepsLimits (focus_place c.args.turn.now)) c.in_ok-at_hand.ensures c.in_ok-focus_all.ensures.within
