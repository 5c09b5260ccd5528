-- The first structure of a list in which a heap embeds.
use Rattle.std.specs.Prelude.{◌≡◌, List, take, Option, Some, None, All, slice_get}
use Rattle.tv_embed.specs.Maps.{IsLeastEmbedding}
use Rattle.tv_embedding_laws.specs.Embedding.{IsHeapOf}
use Rattle.tv_structure_form.specs.StructureForm.{StructureForm, structure_of}
use Rattle.tv_two_valued.specs.TwoValued.{heap_of}
use Rattle.tv_replay_laws.specs.declared.state.ListedCover.{ListedCover}

-- the heap doesn't embed in the structure
abbrev pub IsNotAbove : StructureForm → StructureForm → Type 0
IsNotAbove s t = ¬ IsHeapOf (heap_of s) (structure_of t)

-- the first structure in which the heap of s embeds, with the least map; none where it embeds in none
abbrev pub IsFirstAbove : StructureForm → List StructureForm → Option ListedCover → Type 0
IsFirstAbove s structures None = All (IsNotAbove s) structures
IsFirstAbove s structures (Some place) =
    ((t : StructureForm) × (slice_get structures place.structure ≡ Some t) × IsLeastEmbedding s t place.map)
    × All (IsNotAbove s) (take place.structure structures)
