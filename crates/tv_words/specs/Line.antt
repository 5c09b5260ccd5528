-- What stands on a line of words: options and operands in any order.
use Rattle.std.specs.Prelude.{◌≡◌, ◌+◌, ◌==◌, ◌⊎◌, ℕ, Bool, true, not, List, [], ◌∷◌, ◌++◌, IsTrue}
use Rattle.std.specs.Prelude.{if◌then◌else◌, codes}
use Rattle.std.specs.List.{list_all, list_any}
use Rattle.std.specs.Str.{bytes_eq}

-- a word that isn't an option: it doesn't begin with a hyphen, or it is the lone hyphen
abbrev pub is_operand : List ℕ → Bool
is_operand [] = true
is_operand (first ∷ []) = true
is_operand (first ∷ second ∷ rest) = not (first == 45)

-- a part of a line: an operand, an option without a value, or one with a value
pub data Part : Type 0 where
  Operand : (word : List ℕ) → Part
  Flag : (name : List ℕ) → Part
  Setting : (name value : List ℕ) → Part

-- an option's name as it stands on a line
abbrev pub dashed : List ℕ → List ℕ
dashed name = codes "--" ++ name

-- an option with its value in one word
abbrev pub assigned : (name value : List ℕ) → List ℕ
assigned name value = dashed name ++ (codes "=" ++ value)

-- the words that spell a part: the value of an option is the next word, or stands behind `=` in the same word
abbrev pub IsSpelled : Part → List (List ℕ) → Type 0
IsSpelled (Operand word) words = IsTrue (is_operand word) × (words ≡ word ∷ [])
IsSpelled (Flag name) words = words ≡ dashed name ∷ []
IsSpelled (Setting name value) words = (IsTrue (is_operand value) × (words ≡ dashed name ∷ value ∷ []))
    ⊎ (words ≡ assigned name value ∷ [])

-- the words spell these parts one behind the other; behind them may stand a word `--`, and behind that
-- operands of whatever form
abbrev pub Spells : List Part → (behind : List (List ℕ)) → (words : List (List ℕ)) → Type 0
Spells [] behind words = ((words ≡ []) × (behind ≡ [])) ⊎ (words ≡ codes "--" ∷ behind)
Spells (part ∷ parts) behind words = (own rest : List (List ℕ))
    × IsSpelled part own × (words ≡ own ++ rest) × Spells parts behind rest

abbrev pub is_among : List (List ℕ) → List ℕ → Bool
is_among names name = list_any (λ other. bytes_eq other name) names

-- the part is an operand, one of these flags or one of these settings
abbrev pub is_allowed : (flags settings : List (List ℕ)) → Part → Bool
is_allowed flags settings (Operand word) = true
is_allowed flags settings (Flag name) = is_among flags name
is_allowed flags settings (Setting name value) = is_among settings name

-- the words are a line with these parts, of which the options are among these flags and settings
pub record IsLine (flags settings : List (List ℕ)) (parts : List Part) (behind words : List (List ℕ)) :
    Type 0 where
  pub spelled : Spells parts behind words
  pub allowed : IsTrue (list_all (is_allowed flags settings) parts)

-- the operands before `--`, in order
abbrev pub operands_of : List Part → List (List ℕ)
operands_of [] = []
operands_of (Operand word ∷ parts) = word ∷ operands_of parts
operands_of (Flag name ∷ parts) = operands_of parts
operands_of (Setting name value ∷ parts) = operands_of parts

-- how often a flag stands
abbrev pub uses_of : List ℕ → List Part → ℕ
uses_of flag [] = 0
uses_of flag (Operand word ∷ parts) = uses_of flag parts
uses_of flag (Flag name ∷ parts) = if bytes_eq name flag then uses_of flag parts + 1 else uses_of flag parts
uses_of flag (Setting name value ∷ parts) = uses_of flag parts

-- the values of a setting, in order
abbrev pub values_of : List ℕ → List Part → List (List ℕ)
values_of setting [] = []
values_of setting (Operand word ∷ parts) = values_of setting parts
values_of setting (Flag name ∷ parts) = values_of setting parts
values_of setting (Setting name value ∷ parts) =
    if bytes_eq name setting then value ∷ values_of setting parts else values_of setting parts
