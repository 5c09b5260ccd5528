-- Tuples of individuals as lists.
use Rattle.std.specs.Prelude.{ℕ, List, [], ◌∷◌}
use Rattle.tv_struct.specs.declared.table.Tuple.{Tuple}
use Rattle.tv_struct.specs.declared.table.Tuple.TheVariants.{Zero, One, Two}

-- the list of a tuple's members
abbrev pub tuple_of : Tuple → List ℕ
tuple_of Zero = []
tuple_of (One u) = u ∷ []
tuple_of (Two u w) = u ∷ w ∷ []
