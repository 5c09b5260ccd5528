-- The memory of a program of the pointer language, and what statements do to it.
use Rattle.std.specs.Prelude.{ℕ, ◌≡◌, ◌≢◌, Bool, true, false, not, List, [], ◌∷◌, ◌++◌, Option, Some, None}
use Rattle.std.specs.Prelude.{Contains}
use Rattle.tv_source.specs.Forms.{AssignForm, ANull, ANew, ACopy, ALoad, AStore, AClear, TestForm, TAny}
use Rattle.tv_source.specs.Forms.{TNull, TSame}

-- cells, the cell that each variable has, and the cell that each field of a cell leads to; None is null
pub record Memory : Type 0 where
  pub cells : List ℕ
  pub variable : ℕ → Option ℕ
  pub field : (f cell : ℕ) → Option ℕ

-- the variable x gets the value, and nothing else changes
pub record Assigns (x : ℕ) (value : Option ℕ) (old new : Memory) : Type 0 where
  pub cells : new.cells ≡ old.cells
  pub assigned : new.variable x ≡ value
  pub other_variables : (y : ℕ) → y ≢ x → new.variable y ≡ old.variable y
  pub fields : (f cell : ℕ) → Contains old.cells cell → new.field f cell ≡ old.field f cell

-- the variable x gets a cell that wasn't there, of which each field is null, and nothing else changes
pub record Allocates (x cell : ℕ) (old new : Memory) : Type 0 where
  pub wasnt_there : ¬ Contains old.cells cell
  pub cells : new.cells ≡ old.cells ++ cell ∷ []
  pub assigned : new.variable x ≡ Some cell
  pub other_variables : (y : ℕ) → y ≢ x → new.variable y ≡ old.variable y
  pub null_fields : (f : ℕ) → new.field f cell ≡ None
  pub old_fields : (f other : ℕ) → Contains old.cells other → new.field f other ≡ old.field f other

-- the field f of the cell gets the value, and nothing else changes
pub record Links (f cell : ℕ) (value : Option ℕ) (old new : Memory) : Type 0 where
  pub cells : new.cells ≡ old.cells
  pub variables : (x : ℕ) → new.variable x ≡ old.variable x
  pub linked : new.field f cell ≡ value
  pub other_fields : (g : ℕ) → g ≢ f → (other : ℕ) → Contains old.cells other
      → new.field g other ≡ old.field g other
  pub other_cells : (other : ℕ) → other ≢ cell → Contains old.cells other
      → new.field f other ≡ old.field f other

-- what a statement does to the memory; a dereference of null does nothing that could follow
abbrev pub Does : AssignForm → (old new : Memory) → Type 0
Does (ANull x) old new = Assigns x None old new
Does (ANew x) old new = (cell : ℕ) × Allocates x cell old new
Does (ACopy x y) old new = Assigns x (old.variable y) old new
Does (ALoad x y f) old new = (cell : ℕ) × (old.variable y ≡ Some cell) × Assigns x (old.field f cell) old new
Does (AStore x f y) old new =
    (cell : ℕ) × (old.variable x ≡ Some cell) × Links f cell (old.variable y) old new
Does (AClear x f) old new = (cell : ℕ) × (old.variable x ≡ Some cell) × Links f cell None old new

-- `!=` swaps the two ways of a test
abbrev pub agrees : (equal way : Bool) → Bool
agrees true way = way
agrees false way = not way

-- the fact where the flag is true, else its negation
abbrev pub Reflects : Bool → Type 0 → Type 0
Reflects true fact = fact
Reflects false fact = ¬ fact

-- the test lets control go the true way, or the false one
abbrev pub GoesWay : (way : Bool) → TestForm → Memory → Type 0
GoesWay way TAny m = Unit {0}
GoesWay way (TNull equal x) m = Reflects (agrees equal way) (m.variable x ≡ None)
GoesWay way (TSame equal x y) m = Reflects (agrees equal way) (m.variable x ≡ m.variable y)
