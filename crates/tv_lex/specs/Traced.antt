-- Where each byte of a gathered text comes from.
use Rattle.std.specs.Prelude.{◌≡◌, ℕ, zero, suc, ◌+◌, List, [], ◌∷◌, ◌++◌, Bool, false, if◌then◌else◌, map}
use Rattle.std.specs.Prelude.{Option}
use Rattle.std.specs.Prelude.{Some, None, ◌==◌}
use Rattle.tv_outside.specs.Told.{Held, content_of}
use Rattle.tv_lex.specs.Gather.{deepest_include, opens}
use Rattle.tv_lex.specs.Include.{lines_of, includes, include_name, inner_name}

-- A byte of a gathered text: one of a line of a file, or the line feed behind what an include line gives.
pub data Traced : Type 0 where
  InLine : (name : List ℕ) → (line byte : ℕ) → Traced
  Added : Traced

abbrev pub byte_of : Traced → ℕ
byte_of (InLine name line byte) = byte
byte_of Added = 10

abbrev pub bytes_of : List Traced → List ℕ
bytes_of traced = map byte_of traced

-- bytes of the line of this number of a file
abbrev pub in_line : (name : List ℕ) → (line : ℕ) → List ℕ → List Traced
in_line name line bytes = map (λ byte. InLine name line byte) bytes

-- what a line gives: itself, or what is included
abbrev pub traced_line : (included : List ℕ → List Traced) → (name : List ℕ) → (inside : Bool) → (number : ℕ)
    → List ℕ → List Traced
traced_line included name inside number line =
    if includes inside line then included line else in_line name number line

-- what lines of a file give in their order, of which the first has this number
abbrev pub traced_lines : (included : List ℕ → List Traced) → (name : List ℕ) → (inside : Bool) → (number : ℕ)
    → List (List ℕ) → List Traced
traced_lines included name inside number [] = []
traced_lines included name inside number (line ∷ lines) = traced_line included name inside number line
    ++ traced_lines included name (opens inside line) (number + 1) lines

-- what an include line gives: what the named file gives, and a line feed
abbrev pub traced_named : (file : List ℕ → List Traced) → (name : List ℕ) → Option (List ℕ) → List Traced
traced_named file name None = []
traced_named file name (Some written) = file (inner_name name written) ++ Added ∷ []

abbrev pub traced_include : (file : List ℕ → List Traced) → (name line : List ℕ) → List Traced
traced_include file name line = traced_named file name (include_name line)

-- what a file gives that holds this; its lines are counted from 1
abbrev pub traced_content : (included : List ℕ → List Traced) → (name : List ℕ) → Option (List ℕ)
    → List Traced
traced_content included name None = []
traced_content included name (Some content) = traced_lines included name false 1 (lines_of content)

-- what a file gives that may be this many includes above the deepest file
unfoldable pub traced_file : Held → ℕ → List ℕ → List Traced
traced_file held zero name = traced_content (traced_include (λ inner. []) name) name (content_of held name)
traced_file held (suc left) name =
    traced_content (traced_include (traced_file held left) name) name (content_of held name)

-- these bytes are such, where it is told what the files hold
abbrev pub ArePut : Option Held → (Held → List Traced) → List Traced → Type 0
ArePut told put traced = (held : Held) → (told ≡ Some held) → traced ≡ put held

-- these are the bytes of the gathered text of the named file
abbrev pub IsTraced : Option Held → (name : List ℕ) → List Traced → Type 0
IsTraced told name traced = ArePut told (λ held. traced_file held deepest_include name) traced

-- what includes of a file give that may be this many includes above the deepest file
abbrev pub traced_below : Held → ℕ → List ℕ → List Traced
traced_below held zero inner = []
traced_below held (suc left) inner = traced_file held left inner

-- bytes that stand so, one after the other, in a file, from the first byte in the line of this number on
abbrev pub numbered_from : (name : List ℕ) → (line : ℕ) → List ℕ → List Traced
numbered_from name line [] = []
numbered_from name line (byte ∷ bytes) = InLine name line byte
    ∷ numbered_from name (if byte == 10 then line + 1 else line) bytes
