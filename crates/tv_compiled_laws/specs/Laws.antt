-- Compiled programs in files.
use Rattle.std.specs.Prelude.{ℕ, ◌≡◌, ◌≤◌, List, length, Some, Ok}
use Rattle.tv_compiled.specs.Compiled.{written}
use Rattle.tv_lex.specs.Gather.{longest_gathered}
use Rattle.tv_lex.specs.declared.token.Token.{Token}
use Rattle.tv_model.specs.Program.{program_of}
use Rattle.tv_model.specs.declared.program.Program.{Program}
use Rattle.tv_outside.specs.Told.{Held, content_of}
use Rattle.tv_texts.specs.Files.{IsProgramFile}
use Rattle.tv_texts.specs.Meaning.{MeansProgram}

-- each file that holds the text means the program
abbrev pub MeansInFiles : (text : List ℕ) → Program → Type 0
MeansInFiles text program = (held : Held) (name : List ℕ) → content_of held name ≡ Some text
    → IsProgramFile (Some held) name (Ok program)

-- the program as it is written, if that isn't too long and means it
abbrev pub CompiledTextsArePrograms : Type 0
CompiledTextsArePrograms = (bytes : List ℕ) (tokens : List Token) (program : Program)
    → length (written bytes tokens (program_of program)) ≤ longest_gathered
    → MeansProgram (written bytes tokens (program_of program)) (Ok program)
    → MeansInFiles (written bytes tokens (program_of program)) program
