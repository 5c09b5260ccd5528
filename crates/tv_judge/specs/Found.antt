-- What the tests of a report have found so far.
use Rattle.std.specs.Prelude.{ℕ, ◌≡◌, Bool, IsTrue, List, All, Some, slice_get}
use Rattle.tv_listing.specs.ListingForm.{at_node}
use Rattle.tv_listing.specs.declared.analysis.MapLine.{MapLine}
use Rattle.tv_rules.specs.Closing.{closed_rules}
use Rattle.tv_stable_laws.specs.Stable.{IsStable}
use Rattle.tv_structure_form.specs.StructureForm.{StructureForm, structure_of}
use Rattle.tv_judge.specs.Judged.{Case}
use Rattle.tv_judge.specs.Progress.{IsDoneTo}
use Rattle.tv_judge.specs.declared.found.Found.{Found}

-- the structure is stable under the program's closed rules
abbrev pub IsStableIn : Case → StructureForm → Type 0
IsStableIn c s = IsStable (closed_rules c.program) (structure_of s)

-- the structure that is listed there is
abbrev pub IsStableAt : Case → (node place : ℕ) → Type 0
IsStableAt c node place =
    (s : StructureForm) → slice_get (at_node c.analysis.listing node) place ≡ Some s → IsStableIn c s

-- the demands before the bound are met, with lines that are kept where they are asked for, and what is noted
-- as stable is
pub record IsTestedTo (c : Case) (asked : Bool) (bound : List ℕ) (found : Found) : Type 0 where
  pub lines : List MapLine
  pub done : IsDoneTo c bound lines
  pub kept : IsTrue asked → found.maps ≡ lines
  pub stable : All (λ key. IsStableAt c key.0 key.1) found.stable.keys
