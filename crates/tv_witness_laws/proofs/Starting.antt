-- All small start heaps.
use Rattle.std.proofs.Common.{ℕ, List, Contains}
use Rattle.std.proofs.Common.{arith}
use Rattle.std.proofs.lemmas.List.Elements.{All-contains}
use Rattle.tv_structure_form.specs.StructureForm.{IsStructure}
use Rattle.tv_witness_laws.specs.Laws.{SplitsHaveAllStarts}
use Rattle.tv_start_laws.specs.Starts.{fibre_sizes, IsCopied}
use Rattle.tv_start_laws.proofs.Fibring.{fibres_are_copies}

pub splits_have_all_starts : SplitsHaveAllStarts
splits_have_all_starts q met structures covered h start (i, s, lt, is, (f, e)) small =
    let has : Contains q.initial s = (i, lt, is)
    in let structure : IsStructure s = All-contains IsStructure q.initial s structures has
    in let parts : List ℕ = fibre_sizes f h.individuals 0 s.size
    in let copied : IsCopied s h parts = fibres_are_copies s structure h start.is_heap.individuals_differ f e
    in covered s has parts copied.are (omega (arith, copied.cells, small)) h start copied.below
