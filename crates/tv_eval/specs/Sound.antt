-- What an answer says of every structure that embeds, and of every heap.
use Rattle.std.specs.Prelude.{ℕ}
use Rattle.tv_kleene.specs.declared.K3.{K3}
use Rattle.tv_kleene.specs.Kleene.{LiesUnder}
use Rattle.tv_model.specs.Form.{Form}
use Rattle.tv_model.specs.Heap.{Heap}
use Rattle.tv_model.specs.Truth.{Assignment}
use Rattle.tv_model.specs.Valid.{NamesNew}
use Rattle.tv_embedding_laws.specs.LogicalStructure.{LogicalStructure, heap_structure}
use Rattle.tv_embedding_laws.specs.Embedding.{Embeds, EmbedsWithMarks}
use Rattle.tv_eval_laws.specs.Value.{value}
use Rattle.tv_eval_laws.specs.Laws.{EmbedsFor, TakesAlong, TellsOfHeap}

-- x, an answer for the formula in t under b, covers the formula's values: wherever a structure embeds in
-- t with marks, or embeds at all and the formula doesn't speak of a fresh individual, its value there
-- lies under x. So Yes means true in every heap that embeds, and No means false. It is enough that the
-- map embeds as far as the formula sees
pub record CoversValues (f : Form) (t : LogicalStructure) (b : Assignment) (x : K3) : Type 0 where
  pub with_marks : (m : ℕ → ℕ) (s : LogicalStructure) (a : Assignment) → EmbedsWithMarks m s t
      → TakesAlong m s f a b
      → LiesUnder (value s a f) x
  pub without_marks : (m : ℕ → ℕ) (s : LogicalStructure) (a : Assignment) → (¬ NamesNew f) → Embeds m s t
      → TakesAlong m s f a b → LiesUnder (value s a f) x
  pub as_seen : (m : ℕ → ℕ) (s : LogicalStructure) (a : Assignment) → EmbedsFor f m s t → TakesAlong m s f a b
      → LiesUnder (value s a f) x
  pub heaps : (m : ℕ → ℕ) (h : Heap) (a : Assignment) → EmbedsFor f m (heap_structure h) t
      → TakesAlong m (heap_structure h) f a b → TellsOfHeap h a f x
  pub marked_heaps : (m : ℕ → ℕ) (h : Heap) (a : Assignment) → EmbedsWithMarks m (heap_structure h) t
      → TakesAlong m (heap_structure h) f a b → TellsOfHeap h a f x
  pub plain_heaps : (m : ℕ → ℕ) (h : Heap) (a : Assignment) → (¬ NamesNew f) → Embeds m (heap_structure h) t
      → TakesAlong m (heap_structure h) f a b → TellsOfHeap h a f x
