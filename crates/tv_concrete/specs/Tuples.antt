-- All tuples of individuals.
use Rattle.std.specs.Prelude.{ℕ, zero, suc, List, [], ◌∷◌, map}
use Rattle.std.specs.List.{flat_map}

-- all lists of n elements of the list
abbrev pub tuples_of : List ℕ → ℕ → List (List ℕ)
tuples_of xs zero = [] ∷ []
tuples_of xs (suc n) = flat_map (λ tuple. map (λ u. u ∷ tuple) xs) (tuples_of xs n)
