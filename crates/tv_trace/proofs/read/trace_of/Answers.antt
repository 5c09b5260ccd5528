use Rattle.std.proofs.Common.{◌≡◌, None, Some, subst}
use Rattle.std.specs.Prelude.{All}
use Rattle.std.proofs.lemmas.Result.{err_from_is_err_and}
use Rattle.tv_lex.specs.Token.{spec_tokens}
use Rattle.tv_tvs.proofs.Valid.{valid_fits}
use Rattle.tv_trace.specs.Meaning.{IsMoveOn}
use Rattle.tv_trace.specs.Reading.{moves_meant}
use Rattle.tv_trace.specs.Views.{step_marks}
use Rattle.tv_phrases.proofs.Values.{told_more}
use Rattle.tv_trace.proofs.Moves.{trace_meant, no_trace, no_moves}
use Rattle.tv_trace.proofs.read.trace_of.Goals as goal

pub returns-in_err-steps-clause-fault : goal.returns-in_err-steps-clause-fault
returns-in_err-steps-clause-fault c =
    let p = err_from_is_err_and c.from_residual.result c.from_residual.ensures.1
    in rw (p.1, p.2)
    (told_more c.in_err-steps.field-0.0 _ _ (no_trace c.args.program.now (spec_tokens c.args.bytes.now c.args.tokens.now)) c.in_err-steps.ensures)

pub new-requires : goal.new-requires
new-requires c = (valid_fits c.args.program.now c.requires.valid).vocabulary

pub returns-in_err-moves-clause-fault : goal.returns-in_err-moves-clause-fault
returns-in_err-moves-clause-fault c =
    let p = err_from_is_err_and c.from_residual-in_err-moves.result c.from_residual-in_err-moves.ensures.1
    in let marks = step_marks c.args.bytes.now c.in_ok-steps.steps.items
    in rw (p.1, p.2)
    (told_more c.in_err-moves.field-0.0 _ _
    (λ none. no_moves c.args.program.now (spec_tokens c.args.bytes.now c.args.tokens.now) marks c.in_ok-steps.ensures
    (subst (λ v. moves_meant c.args.program.now v marks ≡ None) c.in_ok-reader.ensures none)) c.in_err-moves.ensures.value)

pub returns-clause-meant : goal.returns-clause-meant
returns-clause-meant c =
    let marks = step_marks c.args.bytes.now c.in_ok-steps.steps.items
    in trace_meant c.args.program.now (spec_tokens c.args.bytes.now c.args.tokens.now) marks _ c.in_ok-steps.ensures
    (subst (λ v. moves_meant c.args.program.now v marks ≡ Some c.in_ok-moves.moves) c.in_ok-reader.ensures c.in_ok-moves.ensures.value)

pub returns-clause-kept : goal.returns-clause-kept
returns-clause-kept c = subst (λ v. All (IsMoveOn c.args.program.now v) c.in_ok-moves.moves) c.in_ok-reader.ensures c.in_ok-moves.ensures.kept
