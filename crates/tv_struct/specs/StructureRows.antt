-- The values of a structure by rows.
use Rattle.std.specs.Prelude.{ℕ, ◌≡◌, Bool, List, [], ◌∷◌, map, Some, slice_get, if◌then◌else◌}
use Rattle.std.specs.List.{range_with_len}
use Rattle.tv_kleene.specs.declared.K3.{K3}
use Rattle.tv_kleene.specs.declared.K3.TheVariants.{No, Half}
use Rattle.tv_row.specs.Bits.{is_possible}
use Rattle.tv_structure_form.specs.TableForm.{table_with_row}
use Rattle.tv_structure_form.specs.StructureForm.{StructureForm, table_of, value_at, summary_at, arities_of}

-- the predicate is one of the structure's and has that arity
abbrev pub HasArity : StructureForm → (pred arity : ℕ) → Type 0
HasArity s pred arity = slice_get (arities_of s) pred ≡ Some arity

-- the values of a unary predicate, individual by individual
abbrev pub unary_row : StructureForm → (pred : ℕ) → List K3
unary_row s pred = map (λ u. value_at s pred (u ∷ [])) (range_with_len 0 s.size)

-- the values of a binary predicate at the pairs with first member u, by the second
abbrev pub row_at : StructureForm → (pred u : ℕ) → List K3
row_at s pred u = map (λ w. value_at s pred (u ∷ w ∷ [])) (range_with_len 0 s.size)

-- the values of a binary predicate at the pairs with second member w, by the first
abbrev pub column_at : StructureForm → (pred w : ℕ) → List K3
column_at s pred w = map (λ u. value_at s pred (u ∷ w ∷ [])) (range_with_len 0 s.size)

-- whether each individual may stand for several cells: Half for a summary, else No
abbrev pub summary_row : StructureForm → List K3
summary_row s = map (λ u. if summary_at s u then Half else No) (range_with_len 0 s.size)

-- flags as a row of values: Half where a flag is true, else No
abbrev pub flag_value : Bool → K3
flag_value on = if on then Half else No

-- and back
abbrev pub flags_of : List K3 → List Bool
flags_of row = map is_possible row

-- the structure with the values put into a row of a predicate: row 0 of a unary one, row u for the pairs
-- with first member u of a binary one
abbrev pub with_row : StructureForm → (pred row : ℕ) → (values : List K3) → StructureForm
with_row s pred row values = record s { planes = (table_with_row (table_of s) pred row values).planes }
