-- In which line of which file a byte of a gathered text stands.
use Rattle.std.specs.Prelude.{◌≡◌, ℕ, List, ◌++◌, ◌&&◌, Bool, Some, nat_le, nat_lt, slice_get}
use Rattle.std.specs.Prelude.{codes}
use Rattle.tv_lex.specs.Traced.{Traced, InLine}
use Rattle.tv_lex.specs.declared.gatherer.Part.{Part}
use Rattle.tv_file_lines.specs.Numbered.{numbered}

-- the byte at this place of the text is one of the line of this number of the named file
abbrev pub StandsInFile : List Traced → (place : ℕ) → (name : List ℕ) → (line : ℕ) → Type 0
StandsInFile traced place name line =
    (byte : ℕ) × (slice_get traced place ≡ Some (InLine name line byte))

abbrev pub is_in : (place : ℕ) → Part → Bool
is_in place part = nat_le part.start place && nat_lt place part.end

-- `NAME:LINE`
abbrev pub file_line_text : (name : List ℕ) → (line : ℕ) → List ℕ
file_line_text name line = name ++ numbered (codes ":") line
