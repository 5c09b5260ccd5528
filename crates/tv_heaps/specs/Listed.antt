-- Heaps that are listed by splitting unknown values.
use Rattle.std.specs.Prelude.{ℕ, ◌≡◌, ◌≤◌, ◌⊎◌, List, length, map, Option, None, Some, All, Contains}
use Rattle.tv_model.specs.Heap.{Heap}
use Rattle.tv_model.specs.Program.{ProgramForm, program_of}
use Rattle.tv_model.specs.Run.{IsStart}
use Rattle.tv_embedding_laws.specs.Embedding.{IsHeapOf}
use Rattle.tv_structure_form.specs.StructureForm.{StructureForm, structure_of}
use Rattle.tv_two_valued.specs.TwoValued.{heap_of}
use Rattle.tv_start_laws.specs.Copies.{IsHeapCopy}
use Rattle.tv_heaps.specs.Heaps.{IsHeapIn}
use Rattle.tv_openings.specs.Openings.{IsPlainOpening, LiesInOne}
use Rattle.tv_heaps.specs.declared.listed.Listed.{Listed}
use Rattle.tv_heaps.specs.declared.listed.Wanted.{Wanted}
use Rattle.tv_heaps.specs.declared.rulebook.Rulebook.{Rulebook}

-- whose heaps are wanted, and of how many individuals
pub record Wish : Type 0 where
  pub program : ProgramForm
  pub cells : ℕ
  pub above : StructureForm

abbrev pub wish_of : Rulebook → Wanted → Wish
wish_of book wanted = record {
  program = program_of book.program.now;
  cells = wanted.cells;
  above = wanted.above.now;
}

-- a structure that is still to be split
abbrev pub IsWaitingFor : Wish → StructureForm → Type 0
IsWaitingFor x w = IsPlainOpening (map (λ d. d.arity) x.program.preds) x.cells w

-- a heap that is wanted
abbrev pub IsWanted : Wish → Heap → Type 0
IsWanted x h = IsStart x.program h × (length h.individuals ≤ x.cells) × IsHeapOf h (structure_of x.above)

-- the heap is a copy of one of those that the structures stand for
abbrev pub HasCopyAmong : List StructureForm → Heap → Type 0
HasCopyAmong heaps h = (t : StructureForm) × Contains heaps t × IsHeapCopy (heap_of t) h

-- all that waits may wait, and what was found is wanted
pub record IsUnderWay (x : Wish) (listed : Listed) : Type 0 where
  pub waiting : All (IsWaitingFor x) listed.waiting.items
  pub found : All (IsHeapIn x.program x.cells x.above) listed.found

-- the heap was found, or embeds in what waits
abbrev pub IsAhead : Listed → Heap → Type 0
IsAhead listed h = LiesInOne listed.waiting.items h ⊎ HasCopyAmong listed.found h

-- what is to come after the structure t was looked at: all that was, and the heaps that embed in t
pub record HasSplit (x : Wish) (t : StructureForm) (old new : Listed) : Type 0 where
  pub under_way : IsUnderWay x new
  pub kept : (h : Heap) → IsAhead old h → IsAhead new h
  pub split : (h : Heap) → IsWanted x h → IsHeapOf h (structure_of t) → IsAhead new h

-- the greatest structure below w that is stable: all wanted heaps that embed in w embed in it
abbrev pub NarrowsTo : Wish → StructureForm → Option StructureForm → Type 0
NarrowsTo x w None = (h : Heap) → IsWanted x h → ¬ IsHeapOf h (structure_of w)
NarrowsTo x w (Some t) =
    IsWaitingFor x t × ((h : Heap) → IsWanted x h → IsHeapOf h (structure_of w) → IsHeapOf h (structure_of t))

-- nothing waits any more, and each wanted heap that was found before or embeds in what waited then is found
pub record HasLookedAtAll (x : Wish) (old new : Listed) : Type 0 where
  pub under_way : IsUnderWay x new
  pub found : (h : Heap) → IsWanted x h → IsAhead old h → HasCopyAmong new.found h
