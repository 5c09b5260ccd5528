-- Laws of maps, as statements.
use Rattle.std.specs.List.{range_with_len}
use Rattle.tv_structure_form.specs.StructureForm.{StructureForm}
use Rattle.tv_embed.specs.Maps.{IsEmbedding}

-- the map that moves nothing embeds a structure in itself
abbrev pub StructuresEmbedInThemselves : Type 0
StructuresEmbedInThemselves = (s : StructureForm) → IsEmbedding s s (range_with_len 0 s.size)
