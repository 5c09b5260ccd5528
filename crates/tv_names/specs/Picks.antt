-- The variables that a step picks.
use Rattle.std.specs.Prelude.{ℕ, ◌==◌, Bool, true, false, not, List, [], ◌∷◌, ◌++◌, fold, filter, get_or}
use Rattle.std.specs.Prelude.{slice_set, if◌then◌else◌}
use Rattle.std.specs.List.{repeat, list_any}
use Rattle.tv_model.specs.Form.{Form}
use Rattle.tv_model.specs.Valid.{free_occurrences, first_occurrences}

-- the free variables of a precondition, in order of first occurrence
abbrev pub picks_in : Form → List ℕ
picks_in f = first_occurrences (free_occurrences f)

-- the flags, with those of these variables too
abbrev pub flagged : List Bool → List ℕ → List Bool
flagged flags vars = fold (λ more v. slice_set more v true) flags vars

-- by number, whether the variable is one of these
abbrev pub flags_of : List ℕ → List Bool
flags_of vars = flagged (repeat 32 (false ∷ [])) vars

abbrev pub is_one_of : List ℕ → ℕ → Bool
is_one_of picks v = list_any (λ w. w == v) picks

-- the variables, with v behind them if it is new
abbrev pub with_pick : List ℕ → ℕ → List ℕ
with_pick picks v = if is_one_of picks v then picks else picks ++ v ∷ []

abbrev pub with_picks : List ℕ → List ℕ → List ℕ
with_picks picks vars = fold with_pick picks vars

-- the variables that aren't bound
abbrev pub unbound : List Bool → List ℕ → List ℕ
unbound bound vars = filter (λ v. not (get_or bound v false)) vars
