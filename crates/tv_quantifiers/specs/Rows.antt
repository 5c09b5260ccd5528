-- Relations of individuals with three truth values, as rows of a square.
use Rattle.std.specs.Prelude.{ℕ, ◌≡◌, ◌<◌, ◌≤◌, List, [], length, slice_index_or}
use Rattle.tv_kleene.specs.declared.K3.{K3}
use Rattle.tv_kleene.specs.Kleene.{smaller_of, larger_of}
use Rattle.tv_quantifiers.specs.declared.relation.Part.{Part}
use Rattle.tv_quantifiers.specs.declared.relation.Part.TheVariants.{From, To, Diagonal}

-- the first n rows have n columns each
pub record IsSquare (n : ℕ) (rows : List (List K3)) : Type 0 where
  pub rows_are : n ≤ length rows
  pub columns : (u : ℕ) → u < n → length (slice_index_or rows u []) ≡ n

-- the value of a best walk from u to w where it may also pass once through the stop
abbrev pub through : (edge : ℕ → ℕ → K3) → (stop : ℕ) → ℕ → ℕ → K3
through edge stop u w = larger_of (edge u w) (smaller_of (edge u stop) (edge stop w))

-- the individual that the part speaks of is one of the first n
abbrev pub IsPart : (n : ℕ) → Part → Type 0
IsPart n (From u) = u < n
IsPart n (To w) = w < n
IsPart n Diagonal = Unit {0}

-- the value of the part at an individual
abbrev pub part_at : Part → (edge : ℕ → ℕ → K3) → ℕ → K3
part_at (From u) edge x = edge u x
part_at (To w) edge x = edge x w
part_at Diagonal edge x = edge x x
