use Rattle.std.proofs.Common.{subst}
use Rattle.tv_lex.specs.Token.{spec_tokens}
use Rattle.tv_phrases.specs.Reading.{Told}
use Rattle.tv_report.specs.Meaning.{IsNoReport}
use Rattle.tv_report.proofs.read.read_report.Goals as goal

pub returns-in-Err-Unexpected-clause-fault : goal.returns-in-Err-Unexpected-clause-fault
returns-in-Err-Unexpected-clause-fault c =
    subst (λ ts. IsNoReport c.args.program.now (spec_tokens c.args.bytes.now ts)) c.as_slice-list.ensures.value
    (subst (λ e. Told e (IsNoReport c.args.program.now (spec_tokens c.args.bytes.now c.as_slice-list.result.now))) c.in-Err-Unexpected.field-0-is
    c.in-Err-Unexpected.ensures.fault)
