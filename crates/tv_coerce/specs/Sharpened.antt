-- What making changes, one after the other, does to a structure.
use Rattle.std.specs.Prelude.{ℕ, ◌≡◌, ◌<◌, ◌≤◌, List, All, Contains}
use Rattle.tv_model.specs.Program.{RuleForm}
use Rattle.tv_stable_laws.specs.Stable.{IsStableUnder}
use Rattle.tv_embedding_laws.specs.LogicalStructure.{LogicalStructure}
use Rattle.tv_embedding_laws.specs.Embedding.{IsBelow}
use Rattle.tv_structure_form.specs.Halves.{half_count}
use Rattle.tv_structure_form.specs.StructureForm.{StructureForm, IsStructure, arities_of, structure_of}
use Rattle.tv_coerce.specs.declared.noted.Ask.{Ask}
use Rattle.tv_coerce.specs.Changes.{Has, IsLowered, IsOpen, IsPlace}

-- the new structure is the old one after so many of the changes that are asked for were made
pub record IsSharpened (asks : List Ask) (made : ℕ) (old new : StructureForm) : Type 0 where
  pub kept : IsStructure new
  pub size : new.size ≡ old.size
  pub arities : arities_of new ≡ arities_of old
  pub mark : new.fresh ≡ old.fresh
  pub below : IsBelow (structure_of new) (structure_of old)
  -- each structure below that has the changes stays below
  pub loses_none : (u : LogicalStructure) → All (λ ask. Has ask.change u) asks → IsBelow u (structure_of old)
      → IsBelow u (structure_of new)
  -- a rule that stays met by each change stays met
  pub keeps : (other : RuleForm) → ((ask : Ask) (mid next : StructureForm) → Contains asks ask
      → IsStructure mid → IsPlace mid ask.change → IsLowered ask.change mid next
      → IsStableUnder (structure_of mid) other → IsStableUnder (structure_of next) other)
      → IsStableUnder (structure_of old) other → IsStableUnder (structure_of new) other
  pub none : made ≡ 0 → new ≡ old
  pub halves : half_count new ≤ half_count old
  pub fewer : 0 < made → All (λ ask. IsOpen old ask.change) asks → half_count new < half_count old
