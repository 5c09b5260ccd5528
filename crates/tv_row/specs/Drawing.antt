-- Rows whose columns come from columns of other rows.
use Rattle.std.specs.Prelude.{ℕ, ◌≡◌, ◌+◌, ◌-◌, ◌%◌, ◌<◌, ◌≤◌, Bool, ◌&&◌, nat_lt, nat_le, if◌then◌else◌}
use Rattle.std.specs.Prelude.{List, length, fold, All, slice_index_or}
use Rattle.std.specs.List.{range_with_len}
use Rattle.tv_kleene.specs.declared.K3.{K3}
use Rattle.tv_kleene.specs.declared.K3.TheVariants.{No}
use Rattle.tv_row.specs.declared.drawing.Run.{Run}

-- an origin for each column, among the columns of the row that is drawn from
pub record DrawingForm : Type 0 where
  pub origins : List ℕ
  pub columns : ℕ

-- all columns, and one that comes from past the end
abbrev pub all_and_next : (columns : ℕ) → DrawingForm
all_and_next columns = record { origins = range_with_len 0 (columns + 1); columns = columns }

-- the value at a column's origin, and No where there is none
abbrev pub drawn_from : (value : ℕ → K3) → DrawingForm → (column : ℕ) → K3
drawn_from value d column =
    if nat_lt (slice_index_or d.origins column d.columns) d.columns
    then value (slice_index_or d.origins column d.columns) else No

-- the run has the column
abbrev pub covers : Run → (column : ℕ) → Bool
covers run column = nat_le run.to column && nat_lt column (run.to + run.count)

-- the column with the value that the run gives it
abbrev pub run_over : (value : ℕ → K3) → (column : ℕ) → K3 → Run → K3
run_over value column k run = if covers run column then value (run.from + (column - run.to)) else k

-- the value that runs give a column, one after the other
abbrev pub drawn_by : (value : ℕ → K3) → List Run → (column : ℕ) → K3
drawn_by value runs column = fold (run_over value column) No runs

-- the run has columns, in one word of each row, before both ends
pub record IsRunOfColumns (columns size : ℕ) (run : Run) : Type 0 where
  pub some : 0 < run.count
  pub to : run.to % 64 + run.count ≤ 64
  pub from : run.from % 64 + run.count ≤ 64
  pub to_end : run.to + run.count ≤ size
  pub from_end : run.from + run.count ≤ columns

-- the runs give each column its origin's value
pub record IsDrawing (d : DrawingForm) (runs : List Run) : Type 0 where
  pub small : length d.origins ≤ 256
  pub each : All (IsRunOfColumns d.columns (length d.origins)) runs
  pub values : (value : ℕ → K3) (column : ℕ) → drawn_by value runs column ≡ drawn_from value d column
