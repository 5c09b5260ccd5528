-- What is read of a text's tokens is spelled as its words are.
use Rattle.std.proofs.Common.{◌≡◌, ℕ, List, Some, Ok}
use Rattle.tv_lex.specs.Token.{spec_tokens}
use Rattle.tv_lex.specs.Pieces.{Reads}
use Rattle.tv_lex.specs.declared.token.Token.{Token}
use Rattle.tv_lex.proofs.PieceTokens.{lexed_tokens}
use Rattle.tv_tree.specs.Forms.{ProgramForm}
use Rattle.tv_tree.specs.Spelled.{IsSpelled}
use Rattle.tv_parse.specs.Reading.{program_reading}
use Rattle.tv_parse.proofs.ProgramLaws.{read_is_program}
use Rattle.tv_parse.proofs.SpelledPrograms.{program_spelled}

pub read_is_spelled : (text : List ℕ) (tokens : List Token) (t : ProgramForm) → Reads text (Ok tokens) → program_reading (spec_tokens text tokens) ≡ Some t → IsSpelled t
read_is_spelled text tokens t reads e = program_spelled (spec_tokens text tokens) t (read_is_program (spec_tokens text tokens) t e) (lexed_tokens text tokens reads)
