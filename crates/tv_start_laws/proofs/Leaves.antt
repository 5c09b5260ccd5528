-- The heap of a two-valued structure, and heaps that embed in it.
use Rattle.std.proofs.Common.{ℕ, ◌≡◌, List, All, Contains}
use Rattle.std.proofs.Common.{sym, ap, subst, ◌∙◌, ⊎_elim}
use Rattle.std.proofs.lemmas.List.{map-id}
use Rattle.std.proofs.lemmas.List.Elements.{All-weaker}
use Rattle.tv_model.specs.Heap.{Heap, Holds}
use Rattle.tv_model.specs.Program.{ProgramForm}
use Rattle.tv_model.specs.Rules.{IsHeap}
use Rattle.tv_model.proofs.Programs.{holds-individuals}
use Rattle.tv_embedding_laws.specs.LogicalStructure.{heap_structure}
use Rattle.tv_embedding_laws.proofs.EmbeddingLaws.{reads_heap}
use Rattle.tv_renaming_laws.specs.Renamed.{renamed}
use Rattle.tv_renaming_laws.proofs.Heaps.{heap-renamed}
use Rattle.tv_structure_form.specs.StructureForm.{StructureForm, IsStructure, structure_of, value_at}
use Rattle.tv_two_valued.specs.Laws.{IsOfProgram, IsToldBy}
use Rattle.tv_two_valued.specs.TwoValued.{IsTwoValued, heap_of}
use Rattle.tv_two_valued.proofs.Heaps.{heap-told, heap-of_program}
use Rattle.tv_start_laws.specs.Copies.{LookAlike, IsCopyBy, IsHeapCopy}
use Rattle.tv_start_laws.specs.Laws.{LeavesAreCopies}
use Rattle.tv_start_laws.specs.Starts.{LiesBelow, FitsBelow}
use Rattle.tv_start_laws.proofs.Alike.{alike-onward}
use Rattle.tv_start_laws.proofs.Copying.{copy-back}
use Rattle.tv_start_laws.proofs.Fibring.{ordinaries_fit}

below-alike : (p : ProgramForm) (s : StructureForm) → IsStructure s → IsTwoValued s → IsOfProgram p s
    → (own k : Heap) → IsHeap p own → LookAlike own k → LiesBelow k (structure_of s) → LookAlike k (heap_of s)
below-alike p s structure two over own k heap alike below = record {
  individuals = λ u. (λ at. below.into u at, λ at. back u at);
  holds = λ q us. (
    λ has. (told.holds q us).1 (sym (same q us (inside q us has)) ∙ ((reads_heap k).yes q us).1 has),
    λ has.
        let there : All (Contains (heap_of s).individuals) us
        = holds-individuals p (heap_of s) (heap-of_program p s structure over) q us has
        in let all : All (Contains k.individuals) us
        = All-weaker (Contains (heap_of s).individuals) (Contains k.individuals) back us there
        in ((reads_heap k).yes q us).0 (same q us all ∙ (told.holds q us).0 has),
  );
  fresh = sym alike.fresh ∙ heap.no_mark ∙ sym over.1;
}
  where
    told : IsToldBy s
    told = heap-told s structure

    back : (u : ℕ) → Contains (heap_of s).individuals u → Contains k.individuals u
    back u at = let from = below.onto u at in subst (Contains k.individuals) from.2 from.1

    inside : (q : ℕ) (us : List ℕ) → Holds k q us → All (Contains k.individuals) us
    inside q us has =
        All-weaker (Contains own.individuals) (Contains k.individuals) (λ u at. (alike.individuals u).0 at) us
        (holds-individuals p own heap q us ((alike.holds q us).1 has))

    same : (q : ℕ) (us : List ℕ) → All (Contains k.individuals) us → (heap_structure k).value q us ≡ value_at s q us
    same q us all =
        ⊎_elim (λ e. e ∙ ap (value_at s q) (map-id us))
        (λ half. absurd (two.values q us (ap (value_at s q) (sym (map-id us)) ∙ half)))
        (below.values q tt us all)

pub leaves_are_copies : LeavesAreCopies
leaves_are_copies p s structure two over h heap embeds =
    at ((ordinaries_fit s structure two.summaries h heap.individuals_differ).0 embeds)
  where
    at : FitsBelow h (structure_of s) → IsHeapCopy (heap_of s) h
    at (k, (r, b, by), below) =
        let own : IsHeap p (renamed r h) = heap-renamed p r b by.renaming h heap
        in let alike : LookAlike k (heap_of s) = below-alike p s structure two over (renamed r h) k own by.alike below
        in let whole : IsCopyBy r b h (heap_of s)
        = record { renaming = by.renaming; alike = alike-onward (renamed r h) k (heap_of s) by.alike alike }
        in (b, r, copy-back r b h (heap_of s) whole)
