-- How a table is held in one list of words: the rows of each predicate behind those of the predicate
-- before, each row in equally many words.
use Rattle.std.specs.Prelude.{ℕ, ◌≡◌, ◌<◌, ◌≤◌, ◌+◌, ◌*◌, ◌/◌, ◌%◌, min, max, List, [], ◌∷◌, length, map, All}
use Rattle.std.specs.Prelude.{slice_index}
use Rattle.std.specs.List.{range_with_len}
use Rattle.tv_kleene.specs.declared.K3.{K3}
use Rattle.tv_kleene.specs.declared.K3.TheVariants.{No}
use Rattle.tv_row.specs.Packed.{PackedForm, cells_for}
use Rattle.tv_row.specs.Places.{value_in, row_of}
use Rattle.tv_structure_form.specs.TableForm.{PlaneForm, TableForm, row_count, column_count}

-- the number of individuals, and the arity of each predicate
pub record LayoutForm : Type 0 where
  pub size : ℕ
  pub arities : List ℕ

pub record IsLayout (l : LayoutForm) : Type 0 where
  pub size : l.size ≤ 256
  pub predicates : length l.arities ≤ 4294967295
  pub arities : All (λ arity. arity ≤ 2) l.arities

-- how many words a row has
abbrev pub words_for : (size : ℕ) → ℕ
words_for size = max 1 (size / 64 + min 1 (size % 64))

-- the first row of each predicate, where the first of all is row n
abbrev pub starts_from : (size n : ℕ) → (arities : List ℕ) → List ℕ
starts_from size n [] = []
starts_from size n (arity ∷ arities) = n ∷ starts_from size (n + row_count size arity) arities

-- the row behind those of all predicates
abbrev pub end_from : (size n : ℕ) → (arities : List ℕ) → ℕ
end_from size n [] = n
end_from size n (arity ∷ arities) = end_from size (n + row_count size arity) arities

-- which row of all is that row of a predicate
abbrev pub row_place : LayoutForm → (pred row : ℕ) → ℕ
row_place l pred row = slice_index (starts_from l.size 0 l.arities) pred + row

-- the values of a predicate whose first row is row `start` of all
unfoldable pub plane_held : (words : List (List K3)) → (width size start arity : ℕ) → PlaneForm
plane_held words width size start arity = record {
  arity = arity;
  rows =
      map (λ row. row_of words (column_count size arity) ((start + row) * width))
      (range_with_len 0 (row_count size arity));
}

abbrev pub planes_held : (words : List (List K3)) → (width size start : ℕ) → (arities : List ℕ)
    → List PlaneForm
planes_held words width size start [] = []
planes_held words width size start (arity ∷ arities) =
    plane_held words width size start arity ∷ planes_held words width size
    (start + row_count size arity) arities

-- the table that the words hold
abbrev pub table_held : LayoutForm → List (List K3) → TableForm
table_held l words =
    record { size = l.size; planes = planes_held words (words_for l.size) l.size 0 l.arities }

-- No where a row has no column
abbrev pub NoBeyond : (words : List (List K3)) → (width size start : ℕ) → (arities : List ℕ) → Type 0
NoBeyond words width size start [] = Unit {0}
NoBeyond words width size start (arity ∷ arities) =
    ((row column : ℕ) → row < row_count size arity → column_count size arity ≤ column → column < 64 * width
    → value_in words ((start + row) * width) column ≡ No)
    × NoBeyond words width size (start + row_count size arity) arities

-- the words hold a table
pub record HoldsTable (l : LayoutForm) (words : List (List K3)) : Type 0 where
  pub layout : IsLayout l
  pub as_many : length words ≡ end_from l.size 0 l.arities * words_for l.size
  pub unused : NoBeyond words (words_for l.size) l.size 0 l.arities

-- and as many values of a word are used as rows of that many individuals take
pub record HoldsPackedTable (l : LayoutForm) (packed : PackedForm) : Type 0 where
  pub table : HoldsTable l packed.words
  pub room : packed.cells ≡ cells_for l.size

-- the layout with what is counted ahead: the words of a row, and how many predicates that have one row
-- alone stand before each predicate and in all; over no individuals these are all rows
pub record IsLaid (l : LayoutForm) (wide : ℕ) (before : List ℕ) (all : ℕ) : Type 0 where
  pub layout : IsLayout l
  pub width : wide ≡ words_for l.size
  pub singles : before ≡ starts_from 0 0 l.arities
  pub total : all ≡ end_from 0 0 l.arities
