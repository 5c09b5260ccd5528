use Rattle.std.proofs.Common.{◌∷◌, Some, ap, sym, subst, ◌∙◌}
use Rattle.std.specs.Prelude.{All}
use Rattle.std.proofs.lemmas.List.{map_push, map-append}
use Rattle.std.proofs.lemmas.List.Elements.{All-nil, All-push}
use Rattle.std.proofs.lemmas.Result.{err_from_is_err_and}
use Rattle.std.specs.Vec.Iter.{into_iter_steps, into_iter_items}
use Rattle.tv_trace.specs.Meaning.{IsMoveOn}
use Rattle.tv_trace.specs.Reading.{moves_meant}
use Rattle.tv_trace.specs.Views.{step_mark, step_marks}
use Rattle.tv_phrases.proofs.Values.{told_more}
use Rattle.tv_lemmas.proofs.Calls.{yielded_split}
use Rattle.tv_trace.proofs.Moves.{meant_nil, moves_more, moves_break}
use Rattle.tv_trace.proofs.read.moves.Goals as goal

pub loop-step-init : goal.loop-step-init
loop-step-init c = record {
  meant = meant_nil c.args.program.now c.args.reader.now ∙ ap Some (sym c.new-moves.ensures);
  kept = subst (All (IsMoveOn c.args.program.now c.args.reader.now)) (sym c.new-moves.ensures) (All-nil (IsMoveOn c.args.program.now c.args.reader.now));
}

pub returns-in_err-found-clause-value : goal.returns-in_err-found-clause-value
returns-in_err-found-clause-value c =
    let p = err_from_is_err_and c.from_residual.result c.from_residual.ensures.1
    in let split = yielded_split into_iter_steps into_iter_items (λ s t x h. h.0) c.args.steps.items c.into_iter-step-iterator.result c.loop-step.step-iterator c.next.new.self
    c.loop-step.yielded c.in-Some.step c.next.result c.into_iter-step-iterator.ensures.into_iter_gives.0 c.loop-step.yielded_by c.in-Some.is c.next.ensures.steps
    in let rest = into_iter_items c.next.new.self
    in let whole = ap (step_marks c.args.bytes.now) split ∙ map-append (step_mark c.args.bytes.now) c.loop-step.yielded (c.in-Some.step ∷ rest)
    in rw (p.1, p.2)
    (told_more c.in_err-found.field-0.0 _ _
    (λ none. ap (moves_meant c.args.program.now c.args.reader.now) whole
    ∙ moves_break c.args.program.now c.args.reader.now (step_marks c.args.bytes.now c.loop-step.yielded) (step_marks c.args.bytes.now rest) (step_mark c.args.bytes.now c.in-Some.step) none)
    c.in_err-found.ensures.value)

pub loop-step-preserved : goal.loop-step-preserved
loop-step-preserved c = record {
  meant = ap (moves_meant c.args.program.now c.args.reader.now) (map_push (step_mark c.args.bytes.now) c.loop-step.yielded c.in-Some.step)
      ∙ moves_more c.args.program.now c.args.reader.now (step_marks c.args.bytes.now c.loop-step.yielded) (step_mark c.args.bytes.now c.in-Some.step) c.loop-step.moves
      c.in_ok-found.found c.loop-step.invariant.meant c.in_ok-found.ensures.value ∙ ap Some (sym c.in_ok-push.ensures);
  kept = subst (All (IsMoveOn c.args.program.now c.args.reader.now)) (sym c.in_ok-push.ensures)
      (All-push (IsMoveOn c.args.program.now c.args.reader.now) c.loop-step.moves c.in_ok-found.found c.loop-step.invariant.kept c.in_ok-found.ensures.kept);
}
