-- Files that a call comes to, and that hold the same later.
use Rattle.std.specs.Prelude.{◌≡◌, ◌⊎◌, ℕ, zero, suc, List, [], ◌∷◌, Bool, true, false, Option, Some}
use Rattle.tv_lex.specs.Gather.{deepest_include, opens}
use Rattle.tv_lex.specs.Include.{include_name, includes, inner_name, lines_of}
use Rattle.tv_outside.specs.Told.{Held, content_of}

-- a line that is an include line names such a file
abbrev pub NamesSuch : (List ℕ → Type 0) → (included : Bool) → (written : Option (List ℕ)) → Type 0
NamesSuch IsSuch true (Some written) = IsSuch written
NamesSuch IsSuch included written = ⊥

-- one of the lines, the first of which begins inside a block comment or not, includes such a file
abbrev pub IncludesSuch : (List ℕ → Type 0) → (inside : Bool) → (lines : List (List ℕ)) → Type 0
IncludesSuch IsSuch inside [] = ⊥
IncludesSuch IsSuch inside (line ∷ lines) = NamesSuch IsSuch (includes inside line) (include_name line)
    ⊎ IncludesSuch IsSuch (opens inside line) lines

-- the file of this name is the first one, or one that such a file includes, at most so many includes deep
unfoldable pub ComesTo : Held → ℕ → (first name : List ℕ) → Type 0
ComesTo held zero first name = first ≡ name
ComesTo held (suc left) first name = (first ≡ name)
    ⊎ ((content : List ℕ) × (content_of held first ≡ Some content)
    × IncludesSuch (λ written. ComesTo held left (inner_name first written) name) false (lines_of content))

-- the name holds later what it holds
abbrev pub KeepsFile : (held later : Held) → (name : List ℕ) → Type 0
KeepsFile held later name =
    (bytes : List ℕ) → content_of held name ≡ Some bytes → content_of later name ≡ Some bytes

-- and so does the file of a program, and each that is included into it
abbrev pub KeepsProgram : (held later : Held) → (program : List ℕ) → Type 0
KeepsProgram held later program =
    (name : List ℕ) → ComesTo held deepest_include program name → KeepsFile held later name
