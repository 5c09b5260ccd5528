use Rattle.std.proofs.Common.{◌≡◌, None, arith}
use Rattle.tv_lex.specs.Token.{spec_tokens}
use Rattle.tv_source_syntax.specs.Depth.{IsTooDeep}
use Rattle.tv_source_syntax.specs.Reading.{source_at}
use Rattle.tv_source_syntax.proofs.Sources.{unread_is_none}
use Rattle.tv_source_syntax.proofs.source.parse_source.Goals as goal

pub returns-in-Err-Unexpected-clause-fault : goal.returns-in-Err-Unexpected-clause-fault
returns-in-Err-Unexpected-clause-fault c =
    let unread = rw c.in-Err-Unexpected.field-0-is at c.in-Err-Unexpected.ensures in
    let none : source_at (spec_tokens c.args.bytes.now c.args.tokens.now.list.items) ≡ None = grind (arith, unread) in
    let low : IsTooDeep (spec_tokens c.args.bytes.now c.args.tokens.now.list.items) → ⊥ = grind arith in
    (low, unread_is_none (spec_tokens c.args.bytes.now c.args.tokens.now.list.items) none)
