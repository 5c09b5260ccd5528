-- What an assignment says: a finite map from variables to individuals.
use Rattle.std.specs.Prelude.{ℕ, ◌<◌, List, Option, None, IsSomeAnd, slice_index_or, unwrap_or}
use Rattle.tv_model.specs.Truth.{Assignment}

-- the individual that a variable stands for, if there is one
abbrev pub individual_for : List (Option ℕ) → ℕ → Option ℕ
individual_for places v = slice_index_or places v None

-- what each variable stands for; one without an individual stands for 0, which no value depends on
abbrev pub assignment_of : List (Option ℕ) → Assignment
assignment_of places = λ v. unwrap_or (individual_for places v) 0

-- the variable stands for an individual of a structure of that size
abbrev pub IsAssigned : (size : ℕ) → List (Option ℕ) → ℕ → Type 0
IsAssigned size places v = IsSomeAnd (individual_for places v) (λ u. u < size)
