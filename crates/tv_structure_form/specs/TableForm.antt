-- Tables of truth values: for each predicate a value at each tuple of its arity over the individuals.
use Rattle.std.specs.Prelude.{ℕ, ◌≡◌, ◌<◌, ◌≤◌, ◌==◌, List, [], ◌∷◌, length, map, Some, All, slice_get}
use Rattle.std.specs.Prelude.{if◌then◌else◌, slice_index_or, slice_set, replicate}
use Rattle.std.specs.List.{AllByRecursion, range_with_len}
use Rattle.tv_kleene.specs.declared.K3.{K3}
use Rattle.tv_kleene.specs.declared.K3.TheVariants.{No}

-- the values of a predicate, by row and column: one value for a nullary predicate, one row with a value
-- for each individual for a unary one, and such a row for each individual for a binary one
pub record PlaneForm : Type 0 where
  pub arity : ℕ
  pub rows : List (List K3)

-- the values of each predicate over the individuals 0 to size - 1
pub record TableForm : Type 0 where
  pub size : ℕ
  pub planes : List PlaneForm

abbrev pub row_of : (tuple : List ℕ) → ℕ
row_of [] = 0
row_of (u ∷ []) = 0
row_of (u ∷ w ∷ others) = u

abbrev pub column_of : (tuple : List ℕ) → ℕ
column_of [] = 0
column_of (u ∷ []) = u
column_of (u ∷ w ∷ others) = w

-- the value in a row and a column, No where there is none
abbrev pub cell : List (List K3) → ℕ → ℕ → K3
cell rows row column = slice_index_or (slice_index_or rows row []) column No

-- the rows with the value put into a row and a column
abbrev pub with_cell : List (List K3) → ℕ → ℕ → K3 → List (List K3)
with_cell rows row column k = slice_set rows row (slice_set (slice_index_or rows row []) column k)

-- the value at a tuple, No where it hasn't the predicate's arity
abbrev pub value_in : PlaneForm → List ℕ → K3
value_in plane tuple =
    if length tuple == plane.arity then cell plane.rows (row_of tuple) (column_of tuple) else No

-- what stands for the values of a predicate that isn't there
abbrev pub no_plane : PlaneForm
no_plane = record { arity = 0; rows = [] }

abbrev pub plane_at : TableForm → ℕ → PlaneForm
plane_at t pred = slice_index_or t.planes pred no_plane

-- the value of a predicate at a tuple
abbrev pub entry : TableForm → (pred : ℕ) → (tuple : List ℕ) → K3
entry t pred tuple = value_in (plane_at t pred) tuple

-- each of the tuple's members is an individual of a table of that size
abbrev pub AreIndividuals : (size : ℕ) → List ℕ → Type 0
AreIndividuals size tuple = AllByRecursion (λ u. u < size) tuple

-- the arities of the predicates, in declaration order
abbrev pub arities_in : List PlaneForm → List ℕ
arities_in planes = map (λ plane. plane.arity) planes

-- the table has an entry for the predicate and the tuple: a tuple of its arity of the table's individuals
pub record HasEntry (t : TableForm) (pred : ℕ) (tuple : List ℕ) : Type 0 where
  pub arity : slice_get (arities_in t.planes) pred ≡ Some (length tuple)
  pub individuals : AreIndividuals t.size tuple

-- the table with the value put at an entry
abbrev pub with_entry : TableForm → (pred : ℕ) → (tuple : List ℕ) → K3 → TableForm
with_entry t pred tuple k = record t {
  planes = slice_set t.planes pred
      (record (plane_at t pred) {
        rows = with_cell (plane_at t pred).rows (row_of tuple)
            (column_of tuple) k;
      });
}

-- the table with the values put into a row of a predicate
abbrev pub table_with_row : TableForm → (pred row : ℕ) → (values : List K3) → TableForm
table_with_row t pred row values = record t {
  planes =
      slice_set t.planes pred
      (record (plane_at t pred) { rows = slice_set (plane_at t pred).rows row values });
}

-- the values in a row of a plane
abbrev pub row_in : PlaneForm → (row : ℕ) → List K3
row_in plane row = slice_index_or plane.rows row []

-- the values in a column of a plane, row by row
abbrev pub column_in : (rows : ℕ) → PlaneForm → (column : ℕ) → List K3
column_in rows plane column = map (λ row. cell plane.rows row column) (range_with_len 0 rows)

abbrev pub row_count : (size arity : ℕ) → ℕ
row_count size arity = if arity == 2 then size else 1

abbrev pub column_count : (size arity : ℕ) → ℕ
column_count size arity = if arity == 0 then 1 else size

-- the plane has exactly the values of the tuples over that many individuals
pub record IsPlane (size : ℕ) (plane : PlaneForm) : Type 0 where
  pub arity : plane.arity ≤ 2
  pub rows : length plane.rows ≡ row_count size plane.arity
  pub columns : All (λ row. length row ≡ column_count size plane.arity) plane.rows

-- what every table keeps: at most 256 individuals, at most 4,294,967,295 predicates, and one value for
-- each tuple
pub record IsTable (t : TableForm) : Type 0 where
  pub size : t.size ≤ 256
  pub predicates : length t.planes ≤ 4294967295
  pub planes : All (IsPlane t.size) t.planes

-- the table of that size that has No everywhere
abbrev pub plane_of_no : (size arity : ℕ) → PlaneForm
plane_of_no size arity = record {
  arity = arity;
  rows = replicate (row_count size arity) (replicate (column_count size arity) No);
}

abbrev pub table_of_no : (size : ℕ) → (arities : List ℕ) → TableForm
table_of_no size arities = record { size = size; planes = map (plane_of_no size) arities }

-- the elements at the given places, in their order, and d for a place past the end
abbrev pub selected : {X : Type 0} → (d : X) → List X → (places : List ℕ) → List X
selected d xs places = map (λ place. slice_index_or xs place d) places

-- the plane over one individual for each of the origins, with the origins' values
abbrev pub plane_drawn : (origins : List ℕ) → PlaneForm → PlaneForm
plane_drawn origins plane = record {
  arity = plane.arity;
  rows =
      map
      (λ row. selected No (slice_index_or plane.rows row []) (if plane.arity == 0 then 0 ∷ [] else origins))
      (if plane.arity == 2 then origins else 0 ∷ []);
}

-- the table over one individual for each of the origins, with the origins' values, and No for an origin
-- past the end
abbrev pub table_drawn : (origins : List ℕ) → TableForm → TableForm
table_drawn origins t = record { size = length origins; planes = map (plane_drawn origins) t.planes }
