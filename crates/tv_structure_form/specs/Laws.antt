-- Laws of structures, as statements.
use Rattle.std.specs.Prelude.{ℕ, ◌≡◌, ◌≢◌, ◌<◌, ◌+◌, Bool, false, List, length, map, Option, slice_index}
use Rattle.tv_kleene.specs.declared.K3.{K3}
use Rattle.tv_kleene.specs.declared.K3.TheVariants.{No}
use Rattle.tv_structure_form.specs.TableForm.{HasEntry, AreIndividuals}
use Rattle.tv_structure_form.specs.StructureForm.{StructureForm, IsStructure, table_of, value_at, summary_at}
use Rattle.tv_structure_form.specs.StructureForm.{with_value, with_summary, with_new, drawn, arities_of}
use Rattle.tv_structure_form.specs.StructureForm.{structure_of_no}

-- writing an entry gives it the value, and changes no other; the arities stay
pub record WritesOneEntry (s : StructureForm) (pred : ℕ) (tuple : List ℕ) (k : K3) : Type 0 where
  pub written : value_at (with_value s pred tuple k) pred tuple ≡ k
  pub others : (q : ℕ) (other : List ℕ) → ¬ ((q ≡ pred) × (other ≡ tuple))
      → value_at (with_value s pred tuple k) q other ≡ value_at s q other
  pub arities : arities_of (with_value s pred tuple k) ≡ arities_of s

-- making an individual a summary, or an ordinary one, changes no other
pub record WritesOneSummary (s : StructureForm) (u : ℕ) (on : Bool) : Type 0 where
  pub written : summary_at (with_summary s u on) u ≡ on
  pub others : (w : ℕ) → w ≢ u → summary_at (with_summary s u on) w ≡ summary_at s w

pub record EntriesAreSeparate : Type 0 where
  pub values : (s : StructureForm) (pred : ℕ) (tuple : List ℕ) (k : K3) → IsStructure s
      → HasEntry (table_of s) pred tuple
      → WritesOneEntry s pred tuple k
  pub summaries : (s : StructureForm) (u : ℕ) (on : Bool) → IsStructure s → u < s.size
      → WritesOneSummary s u on

-- a new structure has the given arities, No everywhere and no summary
pub record IsAllNo (arities : List ℕ) (s : StructureForm) : Type 0 where
  pub over : arities_of s ≡ arities
  pub values : (pred : ℕ) (tuple : List ℕ) → value_at s pred tuple ≡ No
  pub summaries : (u : ℕ) → summary_at s u ≡ false

abbrev pub NewStructuresAreNo : Type 0
NewStructuresAreNo = (size : ℕ) (arities : List ℕ) → IsAllNo arities (structure_of_no size arities)

-- the entries, the summaries and the mark determine a structure of given size and arities
abbrev pub EntriesDetermineStructures : Type 0
EntriesDetermineStructures =
    (s t : StructureForm) → IsStructure s → IsStructure t → s.size ≡ t.size → arities_of s ≡ arities_of t
    → ((pred : ℕ) (tuple : List ℕ) → HasEntry (table_of s) pred tuple
    → value_at s pred tuple ≡ value_at t pred tuple)
    → ((u : ℕ) → u < s.size → summary_at s u ≡ summary_at t u) → s.fresh ≡ t.fresh → s ≡ t

-- where each member of a tuple comes from
abbrev pub origins_of : (origins tuple : List ℕ) → List ℕ
origins_of origins tuple = map (λ u. slice_index origins u) tuple

-- a drawn structure has the origins' values and summaries; the structure with a new individual keeps
-- the values of the others; and a tuple past the end has the value No
pub record DrawnReads (s : StructureForm) : Type 0 where
  pub values : (origins : List ℕ) (fresh : Option ℕ) (pred : ℕ) (tuple : List ℕ)
      → AreIndividuals (length origins) tuple
      → value_at (drawn origins fresh s) pred tuple ≡ value_at s pred (origins_of origins tuple)
  pub summaries : (origins : List ℕ) (fresh : Option ℕ) (u : ℕ) → u < length origins
      → summary_at (drawn origins fresh s) u ≡ summary_at s (slice_index origins u)
  pub arities : (origins : List ℕ) (fresh : Option ℕ) → arities_of (drawn origins fresh s) ≡ arities_of s
  pub with_new : (pred : ℕ) (tuple : List ℕ) → AreIndividuals (s.size + 1) tuple
      → value_at (with_new s) pred tuple ≡ value_at s pred tuple
  pub past_end : (pred : ℕ) (tuple : List ℕ) → (¬ AreIndividuals s.size tuple) → value_at s pred tuple ≡ No

abbrev pub DrawnStructuresRead : Type 0
DrawnStructuresRead = (s : StructureForm) → IsStructure s → DrawnReads s
