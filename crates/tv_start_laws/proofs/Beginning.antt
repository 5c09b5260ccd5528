-- Copies of heaps with which runs may begin.
use Rattle.std.proofs.Common.{ℕ, List, Contains}
use Rattle.std.proofs.lemmas.List.Elements.{All-weaker}
use Rattle.tv_model.specs.Heap.{Heap}
use Rattle.tv_model.specs.Program.{ProgramForm, KindForm, KCore, KDefined}
use Rattle.tv_model.specs.Rules.{IsHeap, IsConcrete, MeetsDefinition, blank}
use Rattle.tv_model.specs.Run.{IsStart}
use Rattle.tv_model.specs.Truth.{put_all}
use Rattle.tv_model.specs.Valid.{IsValid}
use Rattle.tv_renaming_laws.specs.Renamed.{renamed}
use Rattle.tv_renaming_laws.proofs.Heaps.{concrete-renamed, meets-renamed}
use Rattle.tv_start_laws.specs.Copies.{LookAlike, IsCopyBy}
use Rattle.tv_start_laws.specs.Laws.{CopiesKeepStarts}
use Rattle.tv_start_laws.proofs.Alike.{alike-truth, alike-meets}

definition-alike : (h k : Heap) → LookAlike h k → (q : ℕ) (kind : KindForm) (tuple : List ℕ)
    → MeetsDefinition h q kind tuple → MeetsDefinition k q kind tuple
definition-alike h k e q KCore tuple meets = meets
definition-alike h k e q (KDefined vars body) tuple meets =
    let truth = alike-truth h k e (put_all blank vars tuple) body
    in let both = e.holds q tuple
    in (λ t. truth.0 (meets.0 (both.1 t)), λ t. both.0 (meets.1 (truth.1 t)))

concrete-alike : (p : ProgramForm) (h k : Heap) → LookAlike h k → IsConcrete p h → IsConcrete p k
concrete-alike p h k e concrete = λ q d found tuple fits.
    definition-alike h k e q d.kind tuple
    (concrete q d found tuple (
      fits.0,
      All-weaker (Contains k.individuals) (Contains h.individuals)
          (λ u at. (e.individuals u).1 at) tuple fits.1,
    ))

copy-start : (p : ProgramForm) → IsValid p → (r s : ℕ → ℕ) (h k : Heap) → IsCopyBy r s h k → IsHeap p k → IsStart p h
    → IsStart p k
copy-start p valid r s h k by heap start = record {
  is_heap = heap;
  concrete = concrete-alike p (renamed r h) k by.alike (concrete-renamed p valid r s by.renaming h start.concrete);
  meets = alike-meets p (renamed r h) k by.alike (meets-renamed p r s by.renaming h start.meets);
}

pub copies_keep_starts : CopiesKeepStarts
copies_keep_starts p valid h k (r, s, by) heap start = copy-start p valid r s h k by heap start
