-- Which of several structures covers a structure.
use Rattle.std.specs.Prelude.{ℕ, ◌≡◌, ◌<◌, List, Contains, Some, slice_get}
use Rattle.tv_embedding_laws.specs.Embedding.{IsEmbedded}
use Rattle.tv_structure_form.specs.StructureForm.{StructureForm, structure_of}
use Rattle.tv_embed.specs.Maps.{IsLeastEmbedding}

-- the target of this place is the first that covers s, and the map is the least embedding in it
pub record IsFirstCover (targets : List StructureForm) (s : StructureForm) (target : ℕ) (images : List ℕ)
    : Type 0 where
  pub large : StructureForm
  pub listed : slice_get targets target ≡ Some large
  pub least : IsLeastEmbedding s large images
  pub first : (place : ℕ) (other : StructureForm) → place < target → slice_get targets place ≡ Some other
      → ¬ IsEmbedded (structure_of s) (structure_of other)

-- the target of this place covers s, and the map is the least embedding in it
pub record IsCoverAt (targets : List StructureForm) (s : StructureForm) (target : ℕ) (images : List ℕ)
    : Type 0 where
  pub large : StructureForm
  pub listed : slice_get targets target ≡ Some large
  pub least : IsLeastEmbedding s large images

-- no target of this place covers s
abbrev pub HasNoCoverAt : (targets : List StructureForm) → (s : StructureForm) → (target : ℕ) → Type 0
HasNoCoverAt targets s target =
    (large : StructureForm) → slice_get targets target ≡ Some large
    → ¬ IsEmbedded (structure_of s) (structure_of large)

-- all places whose targets cover s are among these
abbrev pub HasCoversAmong : (targets : List StructureForm) → (s : StructureForm) → (places : List ℕ) → Type 0
HasCoversAmong targets s places =
    (place : ℕ) (t : StructureForm) → slice_get targets place ≡ Some t
    → IsEmbedded (structure_of s) (structure_of t) → Contains places place
