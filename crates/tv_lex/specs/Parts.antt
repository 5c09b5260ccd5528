-- The parts of a gathered text, each of which stands so in one file.
use Rattle.std.specs.Prelude.{◌≡◌, ℕ, ◌+◌, ◌<◌, List, [], ◌∷◌, ◌++◌, ◌==◌, ◌⊎◌, Bool, true, false, Option}
use Rattle.std.specs.Prelude.{length, IsTrue, string_bytes}
use Rattle.std.specs.List.{count_by, list_all}
use Rattle.tv_outside.specs.Told.{Held}
use Rattle.tv_lex.specs.Traced.{Traced, InLine, Added, ArePut, IsTraced, bytes_of, in_line, numbered_from}
use Rattle.tv_lex.specs.declared.gatherer.Gathered.{Gathered}
use Rattle.tv_lex.specs.declared.gatherer.Part.{Part}
use Rattle.tv_lex.specs.declared.gatherer.Reading.{Reading}

abbrev pub line_feeds : List ℕ → ℕ
line_feeds bytes = count_by (λ b. b == 10) bytes

-- the name of the part's file
abbrev pub part_name : Part → List ℕ
part_name part = string_bytes part.name

abbrev pub is_added : Traced → Bool
is_added (InLine name line byte) = false
is_added Added = true

-- From the byte at a place on, these are the bytes of the parts in their order, each part's from its line of
-- its file on, with nothing but bytes of no file between, before and behind them.
abbrev pub AreParts : (at : ℕ) → List Part → List Traced → Type 0
AreParts at [] traced = IsTrue (list_all is_added traced)
AreParts at (part ∷ parts) traced = (added : List Traced) × (bytes : List ℕ) × (rest : List Traced)
    × (traced ≡ added ++ (numbered_from (part_name part) part.line bytes ++ rest))
    × IsTrue (list_all is_added added) × (part.start ≡ at + length added)
    × (part.end ≡ part.start + length bytes) × AreParts part.end parts rest

-- the text has these bytes, and these parts
abbrev pub IsMadeOf : List Traced → Gathered → Type 0
IsMadeOf traced gathered =
    (bytes_of traced ≡ gathered.bytes.items) × AreParts 0 gathered.parts.items traced

-- so it is with the bytes of the gathered text of the named file
abbrev pub HasParts : Option Held → (name : List ℕ) → Gathered → Type 0
HasParts told name gathered =
    (traced : List Traced) × IsTraced told name traced × IsMadeOf traced gathered

-- ---- while a file is read

-- behind the bytes of which a text was made such were put
abbrev pub PutsTraced : Option Held → (Held → List Traced) → (old new : Gathered) → Type 0
PutsTraced told put old new = (traced : List Traced) → IsMadeOf traced old
    → (more : List Traced) × ArePut told put more × IsMadeOf (traced ++ more) new

-- a line in front of the rest of its file: it ends with a line feed, or nothing is left
pub record IsLineBefore (behind line : List ℕ) : Type 0 where
  pub some : 0 < length line
  pub ends : (behind ≡ []) ⊎ (line_feeds line ≡ 1)
  pub one : (name : List ℕ) → (number : ℕ) → numbered_from name number line ≡ in_line name number line

-- the rest of a file is still to be read, and the text ends with lines that came right before it and aren't
-- in a part yet
pub record IsOpen (name rest : List ℕ) (traced : List Traced) (out : Gathered)
    (reading : Reading) : Type 0 where
  pub closed : List Traced
  pub open_lines : List ℕ
  pub split : traced ≡ closed ++ numbered_from name reading.first open_lines
  pub bytes : bytes_of traced ≡ out.bytes.items
  pub parted : AreParts 0 out.parts.items closed
  pub start : reading.start ≡ length closed
  pub number : (rest ≡ []) ⊎ (reading.number ≡ reading.first + line_feeds open_lines)
