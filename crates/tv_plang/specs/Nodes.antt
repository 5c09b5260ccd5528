-- Positions in order of first sight.
use Rattle.std.specs.Prelude.{ℕ, ◌==◌, List, [], ◌∷◌, ◌++◌, if◌then◌else◌}
use Rattle.std.specs.List.{list_any}

-- the positions, and this one behind them if it is new
abbrev pub seen : List ℕ → ℕ → List ℕ
seen ks k = if list_any (λ m. k == m) ks then ks else ks ++ k ∷ []
