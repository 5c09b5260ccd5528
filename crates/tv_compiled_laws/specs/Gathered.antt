-- What is gathered of a file that includes nothing.
use Rattle.std.specs.Prelude.{ℕ, ◌≡◌, ◌≤◌, List, length, Some, Ok}
use Rattle.tv_lex.specs.Comments.{IsWholeLines}
use Rattle.tv_lex.specs.Gather.{Gathers, longest_gathered}
use Rattle.tv_lex.specs.Pieces.{Reads}
use Rattle.tv_lex.specs.declared.token.Token.{Token}
use Rattle.tv_outside.specs.Told.{Held, content_of}

-- a text that has tokens and ends with its last line is gathered as it stands, if it isn't too long
abbrev pub WholeTextsAreGathered : Type 0
WholeTextsAreGathered = (held : Held) (name text : List ℕ) (tokens : List Token)
    → content_of held name ≡ Some text → length text ≤ longest_gathered → IsWholeLines text
    → Reads text (Ok tokens) → Gathers (Some held) name (Ok text)
