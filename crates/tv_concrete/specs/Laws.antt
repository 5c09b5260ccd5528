-- Laws of truth and of concrete heaps, as statements.
use Rattle.std.specs.Prelude.{ℕ, ◌≡◌, ◌⊎◌, ◌↔◌, List, Contains}
use Rattle.tv_model.specs.Form.{Form}
use Rattle.tv_model.specs.Heap.{Heap, Holds}
use Rattle.tv_model.specs.Program.{ProgramForm, EachPred, KCore}
use Rattle.tv_model.specs.Rules.{IsHeap, IsConcrete}
use Rattle.tv_model.specs.Truth.{Assignment, Truth}
use Rattle.tv_model.specs.Valid.{IsValid}

-- a formula is true or it isn't
abbrev pub TruthIsDecided : Type 0
TruthIsDecided = (h : Heap) (a : Assignment) (f : Form) → Truth h a f ⊎ (¬ Truth h a f)

-- two heaps have the same individuals, and core predicates hold of the same tuples
pub record SameCore (p : ProgramForm) (h k : Heap) : Type 0 where
  pub individuals : (u : ℕ) → Contains h.individuals u ↔ Contains k.individuals u
  pub core : EachPred p.preds (λ q d. d.kind ≡ KCore → (tuple : List ℕ) → Holds h q tuple ↔ Holds k q tuple)

-- concrete heaps of a valid program that agree on the core predicates agree on all
abbrev pub AtMostOneConcrete : Type 0
AtMostOneConcrete =
    (p : ProgramForm) → IsValid p → (h k : Heap) → IsHeap p h → IsHeap p k → IsConcrete p h → IsConcrete p k
    → SameCore p h k
    → (q : ℕ) (tuple : List ℕ) → Holds h q tuple ↔ Holds k q tuple

-- for each heap of a valid program there is a concrete one with the same core
abbrev pub AtLeastOneConcrete : Type 0
AtLeastOneConcrete =
    (p : ProgramForm) → IsValid p → (h : Heap) → IsHeap p h
    → (k : Heap) × IsHeap p k × IsConcrete p k × SameCore p h k
