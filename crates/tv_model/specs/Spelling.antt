-- How names and texts of a program are spelled, as lists of ASCII codes.
use Rattle.std.specs.Prelude.{ℕ, ◌≡◌, ◌≢◌, ◌≤◌, ◌<◌, ◌⊎◌, List, [], ◌∷◌, ◌++◌, length, All, Contains}
use Rattle.std.specs.Prelude.{slice_index, codes}
use Rattle.std.specs.List.{join_with_byte}

abbrev pub IsDigit : ℕ → Type 0
IsDigit b = (48 ≤ b) × (b ≤ 57)

abbrev pub IsLetter : ℕ → Type 0
IsLetter b = ((65 ≤ b) × (b ≤ 90)) ⊎ ((97 ≤ b) × (b ≤ 122))

-- one or more letters, digits and underscores
abbrev pub IsWord : List ℕ → Type 0
IsWord bytes = (0 < length bytes) × All (λ b. IsLetter b ⊎ IsDigit b ⊎ (b ≡ 95)) bytes

abbrev pub reserved_words : List (List ℕ)
reserved_words = codes "E" ∷ codes "A" ∷ codes "TC" ∷ codes "foreach" ∷ codes "in" ∷ []

-- a word that begins with no digit and isn't reserved
abbrev pub IsIdentifier : List ℕ → Type 0
IsIdentifier bytes = IsWord bytes × (¬ IsDigit (slice_index bytes 0)) × (¬ Contains reserved_words bytes)

-- an identifier, or one with identifiers behind it in brackets, parted by commas
abbrev pub IsName : List ℕ → Type 0
IsName bytes =
    IsIdentifier bytes
    ⊎ ((first : List ℕ) × (inner : List (List ℕ)) × IsIdentifier first × (0 < length inner)
    × All IsIdentifier inner
    × (bytes ≡ first ++ codes "[" ++ join_with_byte 44 inner ++ codes "]"))

-- printable ASCII without the double quote
abbrev pub IsText : List ℕ → Type 0
IsText bytes = All (λ b. (32 ≤ b) × (b ≤ 126) × (b ≢ 34)) bytes
