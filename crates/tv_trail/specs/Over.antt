-- What a trail's structures are.
use Rattle.std.specs.Prelude.{All}
use Rattle.tv_model.specs.declared.program.Vocab.{Vocab}
use Rattle.tv_structure_form.specs.StructureForm.{IsStructure, IsOver}
use Rattle.tv_trail_laws.specs.declared.trail.Trail.{Trail}

-- the trail's structures are structures over the vocabulary
pub record IsTrailOver (vocab : Vocab) (trail : Trail) : Type 0 where
  pub opening : IsStructure trail.opening × IsOver vocab trail.opening
  pub links : All (λ link. IsStructure link.structure × IsOver vocab link.structure) trail.links
