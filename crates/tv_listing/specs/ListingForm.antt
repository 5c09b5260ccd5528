-- Lists of structures, one for each node.
use Rattle.std.specs.Prelude.{ℕ, ◌≡◌, ◌<◌, Bool, true, false, List, [], ◌∷◌, ◌++◌, length, Any}
use Rattle.std.specs.Prelude.{IsPermutation, Result, Ok, Err, slice_index_or, slice_set}
use Rattle.std.specs.declared.alloc.AllocError.{AllocError}
use Rattle.std.specs.List.Sorted.{IsSorted}
use Rattle.tv_struct.specs.Order.{structure_cmp}
use Rattle.tv_structure_form.specs.StructureForm.{StructureForm, unmarked}

-- the structures that stand at a node
abbrev pub at_node : List (List StructureForm) → ℕ → List StructureForm
at_node listing node = slice_index_or listing node []

-- the listing with the structure behind those of the node
abbrev pub appended : List (List StructureForm) → ℕ → StructureForm → List (List StructureForm)
appended listing node s = slice_set listing node (at_node listing node ++ s ∷ [])

-- one of the structures is equal to s, marks aside
abbrev pub HasEqual : List StructureForm → StructureForm → Type 0
HasEqual structures s = Any (λ t. unmarked t ≡ unmarked s) structures

-- what adding a structure does: it is put behind the others exactly where none of them is equal to it
abbrev pub Adds : (old new : List StructureForm) → StructureForm → Result Bool AllocError → Type 0
Adds old new s (Ok true) = (¬ HasEqual old s) × (new ≡ old ++ s ∷ [])
Adds old new s (Ok false) = HasEqual old s × (new ≡ old)
Adds old new s (Err e) = new ≡ old

-- and what adding it at a node does
abbrev pub AddsAt : (old new : List (List StructureForm)) → ℕ → StructureForm → Result Bool AllocError
    → Type 0
AddsAt old new node s (Ok true) = (¬ HasEqual (at_node old node) s) × (new ≡ appended old node s)
AddsAt old new node s (Ok false) = HasEqual (at_node old node) s × (new ≡ old)
AddsAt old new node s (Err e) = new ≡ old

-- the structures in ascending order, each of them and no other
pub record IsSortedFrom (old new : List StructureForm) : Type 0 where
  pub same : IsPermutation old new
  pub ascending : IsSorted structure_cmp new

-- at each node
pub record AreSorted (old new : List (List StructureForm)) : Type 0 where
  pub nodes : length new ≡ length old
  pub each : (node : ℕ) → node < length old → IsSortedFrom (at_node old node) (at_node new node)
