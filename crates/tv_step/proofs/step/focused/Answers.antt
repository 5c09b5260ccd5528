use Rattle.std.proofs.Common.{◌≡◌, ◌∙◌, List, map, take, ap, sym, subst, All}
use Rattle.std.specs.Prelude.{unwrap_or, IfErr}
use Rattle.std.proofs.lemmas.List.{take_all}
use Rattle.tv_lemmas.proofs.Options.{IfErr-same}
use Rattle.tv_model.specs.declared.program.Mode.{Mode}
use Rattle.tv_model.specs.declared.program.Program.{Program}
use Rattle.tv_step_laws.specs.Transfer.{focus_places}
use Rattle.tv_step.specs.declared.focus.Turn.{Turn}
use Rattle.tv_step.specs.declared.job.Job.{Job}
use Rattle.tv_step.specs.Job.{action_in, IsJob}
use Rattle.tv_step.specs.Places.{focus_place, HasWaiting}
use Rattle.tv_step.specs.Setting.{form_in}
use Rattle.tv_step.specs.Steps.{AreFocusedWithin, IsCauseOfFocus, IsPlace}
use Rattle.tv_step.proofs.Stepping.{action-places, focus-stable}
use Rattle.tv_step.proofs.Turns.{focus-fails, focus-shaped, focused-next, places-next}
use Rattle.tv_step.proofs.step.focused.Goals as goal

-- the turns that are taken are the action's
turns-are : (program : Program) (mode : Mode) (job : Job) (turns : List Turn) → IsJob program mode job
    → turns ≡ job.turns.items → map focus_place turns ≡ focus_places (action_in job).focus
turns-are program mode job turns is same = ap (map focus_place) same ∙ is.places

pub after_turn-requires-clause-place : goal.after_turn-requires-clause-place
after_turn-requires-clause-place c =
    let p = form_in c.args.x.now
    in let job = c.args.job.now
    in let turns = c.as_slice-turn-items.result.now
    in subst (λ turn. IsPlace p (focus_place turn)) (sym c.turn-item.is)
    (action-places p c.requires.ready.valid job.number (action_in job) c.requires.job.action turns
    (turns-are c.args.x.now.program.now c.args.x.now.mode job turns c.requires.job c.as_slice-turn-items.ensures.value)
    c.loop-turn.turn-index c.turn-item.result c.loop-turn-test.true)

pub after_turn-requires-clause-waiting : goal.after_turn-requires-clause-waiting
after_turn-requires-clause-waiting c =
    let program = c.args.x.now.program.now
    in subst (HasWaiting program) (sym c.turn-item.is)
    (subst (All (HasWaiting program)) (sym c.as_slice-turn-items.ensures.value) c.requires.job.waiting
    c.loop-turn.turn-index c.turn-item.result c.loop-turn-test.true)

pub returns-in_err-found-clause-cause : goal.returns-in_err-found-clause-cause
returns-in_err-found-clause-cause c =
    let x = c.args.x.now
    in let p = form_in x
    in let turns = c.as_slice-turn-items.result.now
    in let e = c.in_err-found.field-0.0
    in subst (λ places. IfErr c.from_residual.result (IsCauseOfFocus p places c.args.start.now))
    (turns-are x.program.now x.mode c.args.job.now turns c.requires.job c.as_slice-turn-items.ensures.value)
    (IfErr-same
    (IsCauseOfFocus p (map focus_place turns) c.args.start.now) c.from_residual.result e
    c.from_residual.ensures.1
    (focus-fails p turns c.loop-turn.turn-index c.turn-item.result c.args.start.now _ e
    c.loop-turn-test.true c.turn-item.is c.loop-turn.invariant.are c.in_err-found.ensures.cause))

pub loop-turn-preserved : goal.loop-turn-preserved
loop-turn-preserved c =
    let p = form_in c.args.x.now
    in let turns = c.as_slice-turn-items.result.now
    in let place = focus_place c.turn-item.result
    in let i = c.loop-turn.turn-index
    in let start = c.args.start.now
    in let made = c.in_ok-found.ensures.out
    in record {
      are = rw (places-next turns i c.turn-item.result c.loop-turn-test.true c.turn-item.is)
          (focused-next p (map focus_place (take i turns)) place start _ (unwrap_or c.in_ok-found.found start)
          c.loop-turn.invariant.are made c.in_ok-found.ensures.within);
      shaped = focus-shaped p place _ (unwrap_or c.in_ok-found.found start) made;
      stable = focus-stable p place _ (unwrap_or c.in_ok-found.found start) made;
      scratch = cc;
    }

pub returns-clause-out : goal.returns-clause-out
returns-clause-out c =
    let x = c.args.x.now
    in let turns = c.as_slice-turn-items.result.now
    in let start = c.args.start.now
    in subst (λ places. AreFocusedWithin (form_in x) places start (unwrap_or c.loop-turn.found start))
    (ap (map focus_place) (take_all c.loop-turn.turn-index turns c.loop-turn-test.false)
    ∙ turns-are x.program.now x.mode c.args.job.now turns c.requires.job c.as_slice-turn-items.ensures.value)
    c.loop-turn.invariant.are
