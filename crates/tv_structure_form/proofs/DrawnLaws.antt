-- Structures drawn from others: how they read, and what they keep.
use Rattle.std.proofs.Common.{ℕ, ◌≡◌, ◌<◌, ◌≤◌, ◌+◌, false, List, length, get_or, Option, Some, take, ap}
use Rattle.std.proofs.Common.{subst, ◌∙◌, arith, zero-add}
use Rattle.std.specs.Prelude.{All, sum}
use Rattle.std.proofs.lemmas.List.{get_or-map, get_or_past}
use Rattle.tv_structure_form.specs.StructureForm.{StructureForm, IsMark, IsStructure, summary_at, drawn}
use Rattle.tv_structure_form.specs.StructureForm.{copies_from}
use Rattle.tv_structure_form.proofs.OriginLaws.{get_or-copies_from}

-- an individual is a summary where its origin is
pub summary_at-drawn : (origins : List ℕ) (fresh : Option ℕ) (s : StructureForm) (u : ℕ) → u < length origins
    → summary_at (drawn origins fresh s) u ≡ summary_at s (get_or origins u 0)
summary_at-drawn origins fresh s u lt = get_or-map (λ place. get_or s.summaries place false) origins u 0 false lt

pub IsMark-drawn : (origins : List ℕ) (s : StructureForm) (place u : ℕ) → place < length origins
    → get_or origins place 0 ≡ u → summary_at s u ≡ false → IsMark (drawn origins (Some place) s) (Some place)
IsMark-drawn origins s place u lt comes plain =
    (lt, summary_at-drawn origins (Some place) s place lt ∙ ap (summary_at s) comes ∙ plain)

-- an individual past the end is no summary
pub summary_at-past : (s : StructureForm) (u : ℕ) → IsStructure s → s.size ≤ u → summary_at s u ≡ false
summary_at-past s u is past = get_or_past s.summaries u false (omega (arith, is.summaries))

-- the fresh individual of a split structure is the one copy of the fresh individual
pub IsMark-split : (s : StructureForm) (parts : List ℕ) (u : ℕ) → IsStructure s → s.fresh ≡ Some u
    → length parts ≡ s.size → All (λ part. 1 ≤ part) parts
    → IsMark (drawn (copies_from 0 parts) (Some (sum (take u parts))) s) (Some (sum (take u parts)))
IsMark-split s parts u is fresh count some =
    let mark : (u < s.size) × (summary_at s u ≡ false) = subst (IsMark s) fresh is.fresh
    in let first : (sum (take u parts) < length (copies_from 0 parts)) × (get_or (copies_from 0 parts) (sum (take u parts)) 0 ≡ 0 + u)
    = get_or-copies_from 0 parts u (omega arith) (some u 0 (omega arith))
    in IsMark-drawn (copies_from 0 parts) s (sum (take u parts)) u first.0 (first.1 ∙ zero-add u) mark.1
