-- Maps between structures as lists, and which of them are embeddings.
use Rattle.std.specs.Prelude.{ℕ, ◌≡◌, List, length, slice_index}
use Rattle.std.specs.Ordering.{nat_cmp, is_le}
use Rattle.std.specs.Cmp.Lexicographic.{slice_cmp}
use Rattle.std.specs.Prelude.{IsTrue}
use Rattle.tv_model.specs.Heap.{Heap}
use Rattle.tv_embedding_laws.specs.Embedding.{Embeds, IsHeapOf}
use Rattle.tv_structure_form.specs.StructureForm.{StructureForm, structure_of}

-- where a map, as the list of the individuals' images, takes an individual
abbrev pub image_of : (images : List ℕ) → ℕ → ℕ
image_of images u = slice_index images u

-- the list is an embedding: it has one image for each individual of small, and embeds small in large
abbrev pub IsEmbedding : (small large : StructureForm) → (images : List ℕ) → Type 0
IsEmbedding small large images =
    (length images ≡ small.size) × Embeds (image_of images) (structure_of small) (structure_of large)

-- it is an embedding, and none stands before it in lexicographic order
abbrev pub IsLeastEmbedding : (small large : StructureForm) → (images : List ℕ) → Type 0
IsLeastEmbedding small large images =
    IsEmbedding small large images
    × ((other : List ℕ) → IsEmbedding small large other → IsTrue (is_le (slice_cmp nat_cmp images other)))

-- each heap, of any size, that embeds in small embeds in large
abbrev pub HeapsStay : (small large : StructureForm) → Type 0
HeapsStay small large = (h : Heap) → IsHeapOf h (structure_of small) → IsHeapOf h (structure_of large)
