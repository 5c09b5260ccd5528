use Rattle.std.proofs.Common.{◌∷◌, ◌++◌, [], map, ap, sym, subst, ◌∙◌}
use Rattle.std.proofs.lemmas.List.{map_push, map-append}
use Rattle.std.proofs.lemmas.Result.{err_from_is_err_and}
use Rattle.std.specs.Vec.Iter.{into_iter_steps, into_iter_items}
use Rattle.tv_model.specs.Program.{program_of}
use Rattle.tv_report.specs.Lines.{NamesMessage, message_key, AreMessageLines}
use Rattle.tv_report.specs.Views.{message_lines}
use Rattle.tv_phrases.proofs.Values.{told_more}
use Rattle.tv_lemmas.proofs.Calls.{yielded_split}
use Rattle.tv_report.proofs.OnceLaws.{goes_keys, goes_once, breaks_once}
use Rattle.tv_report.proofs.lines.message_list.Goals as goal

pub returns-in_err-note_message-clause-fault : goal.returns-in_err-note_message-clause-fault
returns-in_err-note_message-clause-fault c =
    let p = err_from_is_err_and c.from_residual.result c.from_residual.ensures.1
    in let split = yielded_split into_iter_steps into_iter_items (λ s t x h. h.0) c.args.messages.items c.into_iter-found-iterator.result c.loop-found.found-iterator c.next.new.self
    c.loop-found.yielded c.in-Some.found c.next.result c.into_iter-found-iterator.ensures.into_iter_gives.0 c.loop-found.yielded_by c.in-Some.is c.next.ensures.steps
    in let whole = ap message_lines split ∙ map-append (λ m. m.line) c.loop-found.yielded (c.in-Some.found ∷ into_iter_items c.next.new.self)
    in rw (p.1, p.2)
    (told_more c.in_err-note_message.field-0.0 _ _
    (λ broken. breaks_once (NamesMessage (program_of c.args.program.now)) message_key (message_lines c.args.messages.items) (message_lines c.loop-found.yielded) (message_lines (into_iter_items c.next.new.self))
    c.in-Some.found.line c.loop-found.seen.keys whole c.loop-found.invariant.seen broken) c.in_err-note_message.ensures.fault)

pub loop-found-preserved : goal.loop-found-preserved
loop-found-preserved c =
    let next = map_push (λ m. m.line) c.loop-found.yielded c.in-Some.found
    in let noted = c.in_ok-note_message.ensures.noted
    in record {
      seen = goes_keys (NamesMessage (program_of c.args.program.now)) message_key (message_lines c.loop-found.yielded) c.in-Some.found.line c.loop-found.seen.keys
          c.note_message.new.seen.keys c.loop-found.invariant.seen noted ∙ ap (map message_key) (sym next);
      lines = c.in_ok-push.ensures ∙ ap (λ ls. ls ++ c.in-Some.found.line ∷ []) c.loop-found.invariant.lines ∙ sym next;
      kept = subst (AreMessageLines (program_of c.args.program.now)) (sym next) (goes_once (NamesMessage (program_of c.args.program.now)) message_key (message_lines c.loop-found.yielded) c.in-Some.found.line
          c.loop-found.seen.keys c.note_message.new.seen.keys c.loop-found.invariant.kept c.loop-found.invariant.seen noted);
    }
