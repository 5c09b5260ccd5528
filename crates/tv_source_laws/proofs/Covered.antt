-- What covers the runs of a compiled program covers those of its source program.
use Rattle.std.proofs.Common.{ℕ, zero, suc, ◌≡◌, ◌∙◌, List, [], ◌∷◌, Some, slice_get, inl, inr, ⊎_elim, refl}
use Rattle.std.proofs.Common.{sym, ap, subst, arith, All, Contains}
use Rattle.std.proofs.lemmas.Bool.{cases_eq}
use Rattle.std.proofs.lemmas.List.Elements.{All-head, All-tail}
use Rattle.tv_lemmas.proofs.Lists.{found_at}
use Rattle.tv_model.specs.declared.program.Mode.{Mode}
use Rattle.tv_model.specs.Heap.{Heap}
use Rattle.tv_model.specs.Run.{Brings}
use Rattle.tv_model.proofs.Decided.{IsDecided, and-decided}
use Rattle.tv_listing.specs.declared.analysis.MessageLine.{MessageLine}
use Rattle.tv_source.specs.Forms.{SourceForm}
use Rattle.tv_source.specs.Valid.{IsSource}
use Rattle.tv_plang_laws.specs.Compiled.{compiled, node_at, IsSmall}
use Rattle.tv_plang_laws.specs.Heaps.{IsMemory, IsHeapOfMemory}
use Rattle.tv_plang_laws.specs.Laws.{AreHeapsOf, HasRunThrough, HasTrueMessage, MeetsNull, MemoriesHaveHeaps}
use Rattle.tv_plang_laws.specs.Laws.{MemoriesStay, NullsAreTold, SourceRunsAreRuns}
use Rattle.tv_plang_laws.specs.Steps.{State, position}
use Rattle.tv_source_laws.specs.Covers.{IsSourceRun, IsWarned, CoversSource}
use Rattle.tv_source_laws.specs.Laws.{CoveredRunsCoverSources}
use Rattle.tv_structure_form.specs.StructureForm.{StructureForm}
use Rattle.tv_step_laws.specs.Closed.{CoversRuns, HasLine}

-- there is a line for a message, or there is none
line-decided : (lines : List MessageLine) (edge number : ℕ) → IsDecided (HasLine lines edge number)
line-decided [] edge number = inr (λ has. omega (arith, has.2))
line-decided (line ∷ lines) edge number =
    go (and-decided (line.edge ≡ edge) (line.number ≡ number) (cases_eq line.edge edge) (cases_eq line.number number))
    (line-decided lines edge number)
  where
    later : HasLine (line ∷ lines) edge number → (¬ ((line.edge ≡ edge) × (line.number ≡ number))) → HasLine lines edge number
    later (zero, l, lt, at, is) other =
        let same : line ≡ l = at
        in absurd (other (ap (λ (m : MessageLine). m.edge) same ∙ is.0, ap (λ (m : MessageLine). m.number) same ∙ is.1))
    later (suc k, l, lt, at, is) other = (k, l, omega (arith, lt), at, is)

    go : IsDecided ((line.edge ≡ edge) × (line.number ≡ number)) → IsDecided (HasLine lines edge number)
        → IsDecided (HasLine (line ∷ lines) edge number)
    go (inl is) rest = inl (0, line, omega arith, refl, is)
    go (inr other) (inl (k, l, lt, at, is)) = inl (suc k, l, omega (arith, lt), at, is)
    go (inr other) (inr none) = inr (λ has. none (later has other))

-- the heap of a state among those of a run
heap-of : (p : SourceForm) (states : List State) (heaps : List Heap) → AreHeapsOf p states heaps
    → (i : ℕ) (t : State) → slice_get states i ≡ Some t → (k : Heap) × (slice_get heaps i ≡ Some k) × IsHeapOfMemory p t.memory k
heap-of p [] heaps are i t at = absurd (cc at)
heap-of p (u ∷ states) [] are i t at = absurd are
heap-of p (u ∷ states) (k ∷ heaps) are zero t at =
    let same : u ≡ t = cc at
    in let Is : State → Type 0 = λ (w : State). IsHeapOfMemory p w.memory k
    in (k, refl, subst Is same are.0)
heap-of p (u ∷ states) (k ∷ heaps) are (suc i) t at = heap-of p states heaps are.1 i t at

module _ (runs : SourceRunsAreRuns) (have : MemoriesHaveHeaps) (stay : MemoriesStay) (told : NullsAreTold)
    (p : SourceForm) (mode : Mode) (initial : List StructureForm) (listed : List (List StructureForm)) (lines : List MessageLine)
    (valid : IsSource p) (small : IsSmall (compiled p)) (covers : CoversRuns (compiled p) mode initial listed lines)
  where
    each-heap : (states : List State) → All (λ (t : State). IsMemory p t.memory) states → (heaps : List Heap) × AreHeapsOf p states heaps
    each-heap [] all = ([], tt)
    each-heap (t ∷ states) all =
        let one = have p valid small t.memory (All-head (λ (u : State). IsMemory p u.memory) t states all)
        in let more = each-heap states (All-tail (λ (u : State). IsMemory p u.memory) t states all)
        in (one.0 ∷ more.0, (one.1, more.1))

    heaps-of : (s : State) (later : List State) (h : Heap) → IsSourceRun p initial s later h
        → (heaps : List Heap) × AreHeapsOf p later heaps
    heaps-of s later h run = each-heap later (stay p valid s later run.at_start run.goes_through run.is_memory)

    has-run : (s : State) (later : List State) (h : Heap) → IsSourceRun p initial s later h
        → (heaps : List Heap) → AreHeapsOf p later heaps → HasRunThrough (compiled p) p mode s later h heaps
    has-run s later h run heaps are = runs p valid mode s later run.at_start run.goes_through h heaps run.has_heap are

    warned : (s : State) (later : List State) (h : Heap) → IsSourceRun p initial s later h
        → (t : State) → Contains (s ∷ later) t → (z : ℕ) → MeetsNull t z → IsWarned p lines (node_at p (position p t))
    warned s later h run t among z meets =
        let heaps = heaps-of s later h run
        in let has : HasRunThrough (compiled p) p mode s later h heaps.0 = has-run s later h run heaps.0 heaps.1
        in let at = found_at (s ∷ later) t among
        in let k = heap-of p (s ∷ later) (h ∷ heaps.0) (run.has_heap, heaps.1) at.0 t at.1
        in let m : HasTrueMessage (compiled p) (node_at p (position p t)) k.0
        = told p valid s later run.at_start run.goes_through t among z meets k.0 k.2
        in let At : ℕ → Type 0 = λ node. Brings h has.stages node k.0
        in let brought : Brings h has.stages m.taken.from k.0 = subst At (sym m.leaves) (has.brings at.0 t k.0 at.1 k.1)
        in record {
          edge = m.edge;
          taken = m.taken;
          its_edge = m.its_edge;
          leaves = m.leaves;
          line = ⊎_elim (λ line. line) (λ none. absurd (covers.messages h has.stages has.is_run run.begins m.edge m.taken m.its_edge 0
              m.message (m.action, record { taken = m.taken; its_edge = m.its_edge; its_action = m.its_action }, m.its_message)
              none k.0 brought m.is_true))
              (line-decided lines m.edge 0);
        }

    covered : CoversSource p initial listed lines
    covered = record {
      have_heaps = heaps-of;
      heaps = λ s later h run heaps are i t k is_state is_heap.
          let has : HasRunThrough (compiled p) p mode s later h heaps = has-run s later h run heaps are
          in covers.heaps h has.stages has.is_run run.begins (node_at p (position p t)) k (has.brings i t k is_state is_heap);
      nulls = warned;
    }

pub covered_runs_cover_sources : SourceRunsAreRuns → MemoriesHaveHeaps → MemoriesStay → NullsAreTold → CoveredRunsCoverSources
covered_runs_cover_sources runs have stay told p mode initial listed lines valid small covers =
    covered runs have stay told p mode initial listed lines valid small covers
