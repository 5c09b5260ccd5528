-- How a structure is sharpened: an unknown entry gets a definite value, or a summary becomes an ordinary
-- individual.
use Rattle.std.specs.Prelude.{◌≡◌, ◌≢◌, ◌<◌, ◌≤◌, ◌⊎◌, false, true}
use Rattle.tv_kleene.specs.declared.K3.TheVariants.{Half}
use Rattle.tv_embedding_laws.specs.LogicalStructure.{LogicalStructure}
use Rattle.tv_embedding_laws.specs.Embedding.{IsBelow}
use Rattle.tv_structure_form.specs.Halves.{half_count}
use Rattle.tv_structure_form.specs.StructureForm.{StructureForm, IsStructure, arities_of, structure_of}
use Rattle.tv_structure_form.specs.StructureForm.{table_of}
use Rattle.tv_structure_form.specs.StructureForm.{value_at, summary_at, with_value, with_summary}
use Rattle.tv_structure_form.specs.TableForm.{HasEntry}
use Rattle.tv_struct.specs.TupleForm.{tuple_of}
use Rattle.tv_coerce.specs.declared.change.Change.{Change}
use Rattle.tv_coerce.specs.declared.change.Change.TheVariants.{Value, Ordinary}

-- the structure has what the change puts
abbrev pub Has : Change → LogicalStructure → Type 0
Has (Value pred tuple k) u = u.value pred.0 (tuple_of tuple) ≡ k
Has (Ordinary x) u = u.is_summary x ≡ false

-- the change is of an entry of the structure, or of one of its individuals
abbrev pub IsPlace : StructureForm → Change → Type 0
IsPlace s (Value pred tuple k) = HasEntry (table_of s) pred.0 (tuple_of tuple)
IsPlace s (Ordinary x) = x < s.size

-- what it puts there isn't known yet
abbrev pub IsOpen : StructureForm → Change → Type 0
IsOpen s (Value pred tuple k) = (value_at s pred.0 (tuple_of tuple) ≡ Half) × (k ≢ Half)
IsOpen s (Ordinary x) = summary_at s x ≡ true

-- the structure with the change
abbrev pub changed : StructureForm → Change → StructureForm
changed s (Value pred tuple k) = with_value s pred.0 (tuple_of tuple) k
changed s (Ordinary x) = with_summary s x false

-- the new structure is the old one, or the old one with the change
pub record IsLowered (c : Change) (old new : StructureForm) : Type 0 where
  pub is : (new ≡ old) ⊎ (new ≡ changed old c)
  pub kept : IsStructure new
  pub size : new.size ≡ old.size
  pub arities : arities_of new ≡ arities_of old
  pub mark : new.fresh ≡ old.fresh
  pub below : IsBelow (structure_of new) (structure_of old)
  -- each structure below that has the change stays below
  pub loses_none : (u : LogicalStructure) → Has c u → IsBelow u (structure_of old)
      → IsBelow u (structure_of new)
  pub halves : half_count new ≤ half_count old
  pub fewer : IsOpen old c → half_count new < half_count old
