-- Laws of written traces, as statements.
use Rattle.std.specs.Prelude.{ℕ, ◌<◌, ◌^◌, List, Ok, All}
use Rattle.tv_lex.specs.Pieces.{Reads}
use Rattle.tv_lex.specs.Token.{spec_tokens}
use Rattle.tv_lex.specs.declared.token.Token.{Token}
use Rattle.tv_model.specs.Program.{program_of}
use Rattle.tv_model.specs.Valid.{IsValid}
use Rattle.tv_model.specs.declared.program.Program.{Program}
use Rattle.tv_trace.specs.Meaning.{IsMoveOn, MeansTrace}
use Rattle.tv_trace.specs.declared.trace.Move.{Move}
use Rattle.tv_trace_text.specs.Text.{trace_text}

-- the move is one on the program, and its numbers are those of words
pub record IsWrittenMove (program : Program) (move : Move) : Type 0 where
  pub on : IsMoveOn program program.vocab move
  pub edge : move.edge < 2 ^ 32
  pub picks : All (λ u. u < 2 ^ 32) move.picks

abbrev pub TracesAreReadAgain : Type 0
TracesAreReadAgain =
    (program : Program) → IsValid (program_of program) → (moves : List Move)
    → All (IsWrittenMove program) moves
    → (tokens : List Token) × Reads (trace_text program.vocab moves) (Ok tokens)
    × MeansTrace program (spec_tokens (trace_text program.vocab moves) tokens) (record { moves = moves })
