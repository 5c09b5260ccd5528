-- Words among others, and the final texts of names.
use Rattle.std.specs.Prelude.{ℕ, Bool, List, [], ◌∷◌, ◌++◌, Option, map, position, codes}
use Rattle.std.specs.Borrow.{Bor}
use Rattle.std.specs.List.{list_any, join_with_byte}
use Rattle.std.specs.Str.{bytes_eq}
use Rattle.tv_tree.specs.Forms.{NameForm}

-- whether a word is one of these
abbrev pub is_among : List (List ℕ) → List ℕ → Bool
is_among words word = list_any (bytes_eq word) words

-- where a name stands first among others
abbrev pub number_of : List (List ℕ) → List ℕ → Option ℕ
number_of names name = position (bytes_eq name) names

-- names that borrow their bytes
abbrev pub names_of : List (Bor (List ℕ)) → List (List ℕ)
names_of names = map (λ name. name.now) names

-- the identifiers in brackets behind a name, with commas between them
abbrev pub brackets_text : List (List ℕ) → List ℕ
brackets_text [] = []
brackets_text (x ∷ xs) = codes "[" ++ (join_with_byte 44 (x ∷ xs) ++ codes "]")

-- the text of a name, without blanks: its identifier, and those in brackets behind it
abbrev pub name_text : NameForm → List ℕ
name_text name = name.first ++ brackets_text name.brackets
