-- What an opening keeps.
use Rattle.std.specs.Prelude.{Option, None, Some}
use Rattle.tv_model.specs.Heap.{Heap}
use Rattle.tv_model.specs.Program.{ProgramForm}
use Rattle.tv_embedding_laws.specs.Embedding.{IsHeapOf}
use Rattle.tv_structure_form.specs.StructureForm.{StructureForm, structure_of}
use Rattle.tv_step_laws.specs.Sound.{IsStartOf}

-- each start heap of s embeds in the structure found, and where none was found there is no such heap
abbrev pub HasStarts : ProgramForm → StructureForm → Option StructureForm → Type 0
HasStarts p s None = (h : Heap) → ¬ IsStartOf p s h
HasStarts p s (Some t) = (h : Heap) → IsStartOf p s h → IsHeapOf h (structure_of t)
