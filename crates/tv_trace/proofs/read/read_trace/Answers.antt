use Rattle.std.proofs.Common.{subst}
use Rattle.tv_lex.specs.Token.{spec_tokens}
use Rattle.tv_phrases.specs.Reading.{Told}
use Rattle.tv_trace.specs.Meaning.{IsNoTrace}
use Rattle.tv_trace.proofs.read.read_trace.Goals as goal

pub returns-in-Err-Unexpected-clause-fault : goal.returns-in-Err-Unexpected-clause-fault
returns-in-Err-Unexpected-clause-fault c =
    subst (λ ts. IsNoTrace c.args.program.now (spec_tokens c.args.bytes.now ts)) c.as_slice-list.ensures.value
    (subst (λ e. Told e (IsNoTrace c.args.program.now (spec_tokens c.args.bytes.now c.as_slice-list.result.now))) c.in-Err-Unexpected.field-0-is
    c.in-Err-Unexpected.ensures.fault)
