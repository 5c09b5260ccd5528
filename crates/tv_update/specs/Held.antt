-- The rows that are held for a predicate.
use Rattle.std.specs.Prelude.{ℕ, List, [], ◌∷◌}
use Rattle.tv_kleene.specs.declared.K3.{K3}
use Rattle.tv_update.specs.declared.rows.Rows.{Rows}

-- the only row of a predicate of at most one variable, or the rows of one of two
abbrev pub rows_held : Rows → (vars : List ℕ) → List (List K3)
rows_held rows [] = rows.only ∷ []
rows_held rows (v ∷ []) = rows.only ∷ []
rows_held rows (v ∷ w ∷ more) = rows.pairs.items
