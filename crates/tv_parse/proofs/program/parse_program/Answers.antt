use Rattle.std.proofs.Common.{◌≡◌, Some, None, arith}
use Rattle.tv_lex.specs.Token.{spec_tokens}
use Rattle.tv_parse.specs.Height.{IsTooDeep}
use Rattle.tv_parse.specs.Reading.{program_reading}
use Rattle.tv_tree.specs.Copies.{program_of}
use Rattle.tv_parse.proofs.ProgramLaws.{unread_is_none}
use Rattle.tv_parse.proofs.LexTokens.{read_is_spelled}
use Rattle.tv_parse.proofs.program.parse_program.Goals as goal

pub returns-in-Err-Unexpected-clause-fault : goal.returns-in-Err-Unexpected-clause-fault
returns-in-Err-Unexpected-clause-fault c =
    let unread = rw c.in-Err-Unexpected.field-0-is at c.in-Err-Unexpected.ensures in
    let none : program_reading (spec_tokens c.args.bytes.now c.args.tokens.now.list.items) ≡ None = grind (arith, unread) in
    let low : IsTooDeep (spec_tokens c.args.bytes.now c.args.tokens.now.list.items) → ⊥ = grind arith in
    (low, unread_is_none (spec_tokens c.args.bytes.now c.args.tokens.now.list.items) none)

pub returns-in-Ok-clause-spelled : goal.returns-in-Ok-clause-spelled
returns-in-Ok-clause-spelled c =
    let read : program_reading (spec_tokens c.args.bytes.now c.args.tokens.now.list.items) ≡ Some (program_of c.in-Ok.tree) = grind (arith, c.in-Ok.ensures) in
    read_is_spelled c.args.bytes.now c.args.tokens.now.list.items (program_of c.in-Ok.tree) c.requires.read read
