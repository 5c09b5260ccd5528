-- Words with numbers.
use Rattle.std.specs.Prelude.{ℕ, List, ◌++◌, decimal}

-- a word and a number
abbrev pub numbered : (word : List ℕ) → ℕ → List ℕ
numbered word n = word ++ decimal n
