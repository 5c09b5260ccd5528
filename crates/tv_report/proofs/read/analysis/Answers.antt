use Rattle.std.proofs.lemmas.Result.{err_from_is_err_and}
use Rattle.tv_lex.specs.Token.{spec_tokens}
use Rattle.tv_report.specs.Views.{report_marks}
use Rattle.tv_phrases.proofs.Values.{told_more}
use Rattle.tv_report.proofs.ReadLaws.{report_meant, no_report, no_listing, no_messages, no_maps}
use Rattle.tv_report.proofs.read.analysis.Goals as goal

pub returns-in_err-report-clause-fault : goal.returns-in_err-report-clause-fault
returns-in_err-report-clause-fault c =
    let p = err_from_is_err_and c.from_residual.result c.from_residual.ensures.1
    in rw (p.1, p.2)
    (told_more c.in_err-report.field-0.0 _ _ (no_report c.args.program.now (spec_tokens c.args.bytes.now c.args.tokens.now)) c.in_err-report.ensures)

pub returns-in_err-listing-clause-fault : goal.returns-in_err-listing-clause-fault
returns-in_err-listing-clause-fault c =
    let p = err_from_is_err_and c.from_residual-in_err-listing.result c.from_residual-in_err-listing.ensures.1
    in rw (p.1, p.2)
    (told_more c.in_err-listing.field-0.0 _ _
    (no_listing c.args.program.now (spec_tokens c.args.bytes.now c.args.tokens.now) (report_marks c.args.bytes.now c.in_ok-report.report) c.in_ok-report.ensures)
    c.in_err-listing.ensures.fault)

pub returns-in_err-messages-clause-fault : goal.returns-in_err-messages-clause-fault
returns-in_err-messages-clause-fault c =
    let p = err_from_is_err_and c.from_residual-in_err-messages.result c.from_residual-in_err-messages.ensures.1
    in rw (p.1, p.2)
    (told_more c.in_err-messages.field-0.0 _ _
    (no_messages c.args.program.now (spec_tokens c.args.bytes.now c.args.tokens.now) (report_marks c.args.bytes.now c.in_ok-report.report) c.in_ok-report.ensures)
    c.in_err-messages.ensures.fault)

pub returns-in_err-maps-clause-fault : goal.returns-in_err-maps-clause-fault
returns-in_err-maps-clause-fault c =
    let p = err_from_is_err_and c.from_residual-in_err-maps.result c.from_residual-in_err-maps.ensures.1
    in rw (p.1, p.2)
    (told_more c.in_err-maps.field-0.0 _ _
    (no_maps c.args.program.now (spec_tokens c.args.bytes.now c.args.tokens.now) (report_marks c.args.bytes.now c.in_ok-report.report) c.in_ok-listing.listing
    c.in_ok-report.ensures c.in_ok-listing.ensures.listed)
    c.in_err-maps.ensures.fault)

pub returns-clause-meant : goal.returns-clause-meant
returns-clause-meant c =
    report_meant c.args.program.now (spec_tokens c.args.bytes.now c.args.tokens.now) (report_marks c.args.bytes.now c.in_ok-report.report) _ c.in_ok-report.ensures
    c.in_ok-listing.ensures.listed c.in_ok-messages.ensures.kept c.in_ok-messages.ensures.same c.in_ok-maps.ensures.kept c.in_ok-maps.ensures.same
