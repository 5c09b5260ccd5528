use Rattle.std.proofs.Common.{◌∙◌, [], length, rules, subst, sym}
use Rattle.std.proofs.lemmas.List.{map-id}
use Rattle.std.proofs.lemmas.Iterator.Adapters.{YieldsList-from_vec}
use Rattle.std.proofs.lemmas.Iterator.Consumers.{YieldsList-end, YieldsList-turn}
use Rattle.std.proofs.lemmas.List.Elements.{All-contains}
use Rattle.tv_lemmas.proofs.Options.{IfErr-same}
use Rattle.tv_focus.specs.Stage.{IsWithinLimits}
use Rattle.tv_step_laws.specs.Shaped.{IsShaped}
use Rattle.tv_step_laws.specs.Transfer.{Focuses}
use Rattle.tv_step.specs.Places.{focus_place}
use Rattle.tv_step.specs.Setting.{form_in, IsStableIn}
use Rattle.tv_step.specs.Steps.{IsFocusCause, KeepsLimits}
use Rattle.tv_step.proofs.Adding.{adds-more, all-more}
use Rattle.tv_step.proofs.Turns.{cause-in}
use Rattle.tv_step.proofs.focus.focus_all.Goals as goal

pub push_focused-requires-clause-shaped : goal.push_focused-requires-clause-shaped
push_focused-requires-clause-shaped c =
    let turn = YieldsList-turn
    (YieldsList-from_vec {s = c.into_iter-s-iterator.result} c.args.at_hand (search rules) (search rules))
    c.loop-s.yielded c.loop-s.s-iterator c.loop-s.yielded_by c.next.result c.next.new.self c.in-Some.s
    c.in-Some.is c.next.ensures.steps
    in All-contains (IsShaped (form_in c.args.x.now)) c.args.at_hand c.in-Some.s c.requires.shaped
    (length c.loop-s.yielded, turn.0, sym turn.1)

pub push_focused-requires-clause-stable : goal.push_focused-requires-clause-stable
push_focused-requires-clause-stable c =
    let turn = YieldsList-turn
    (YieldsList-from_vec {s = c.into_iter-s-iterator.result} c.args.at_hand (search rules) (search rules))
    c.loop-s.yielded c.loop-s.s-iterator c.loop-s.yielded_by c.next.result c.next.new.self c.in-Some.s
    c.in-Some.is c.next.ensures.steps
    in All-contains (IsStableIn (form_in c.args.x.now)) c.args.at_hand c.in-Some.s c.requires.stable
    (length c.loop-s.yielded, turn.0, sym turn.1)

pub returns-in_err-push_focused-clause-cause : goal.returns-in_err-push_focused-clause-cause
returns-in_err-push_focused-clause-cause c =
    let turn = YieldsList-turn
    (YieldsList-from_vec {s = c.into_iter-s-iterator.result} c.args.at_hand (search rules) (search rules))
    c.loop-s.yielded c.loop-s.s-iterator c.loop-s.yielded_by c.next.result c.next.new.self c.in-Some.s
    c.in-Some.is c.next.ensures.steps
    in let place = focus_place c.args.turn.now
    in let e = c.in_err-push_focused.field-0.0
    in IfErr-same (IsFocusCause place c.args.at_hand) c.from_residual.result e c.from_residual.ensures.1
    (cause-in place c.args.at_hand c.in-Some.s e (length c.loop-s.yielded, turn.0, sym turn.1)
    c.in_err-push_focused.ensures.cause)

pub loop-s-preserved : goal.loop-s-preserved
loop-s-preserved c =
    let place = focus_place c.args.turn.now
    in record {
      out = adds-more (Focuses (form_in c.args.x.now) place) c.loop-s.yielded c.in-Some.s [] c.loop-s.out
          c.push_focused.new.out c.loop-s.invariant.out c.in_ok-push_focused.ensures.out;
      within = all-more (λ s. IsWithinLimits s place.formula place.atom) c.loop-s.yielded c.in-Some.s
          c.loop-s.invariant.within c.in_ok-push_focused.ensures.within;
      scratch = cc;
    }

pub returns-clause-within : goal.returns-clause-within
returns-clause-within c =
    let all = YieldsList-end
    (YieldsList-from_vec {s = c.into_iter-s-iterator.result} c.args.at_hand (search rules) (search rules))
    c.loop-s.yielded c.loop-s.s-iterator c.loop-s.yielded_by c.next.result c.next.new.self
    c.in-None.is c.next.ensures.steps
    in subst (KeepsLimits (focus_place c.args.turn.now)) (sym (map-id c.loop-s.yielded) ∙ all.0)
    c.loop-s.invariant.within
