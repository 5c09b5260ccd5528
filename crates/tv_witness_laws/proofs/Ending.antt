-- The end of a search: it has met every run of small heaps.
use Rattle.std.proofs.Common.{ℕ, suc, ◌≡◌, ◌≤◌, ◌+◌, ◌⊎◌, add-zero, List, [], ◌∷◌, map, length, All, Contains}
use Rattle.std.proofs.Common.{inl}
use Rattle.std.proofs.Common.{inr, refl, sym, subst, ◌∙◌, ⊎_elim, arith}
use Rattle.std.proofs.lemmas.List.{length-map}
use Rattle.std.proofs.lemmas.List.Elements.{All-head, All-tail}
use Rattle.std.proofs.lemmas.Bool.{cases_eq, cases_lt}
use Rattle.tv_model.specs.declared.program.Edge.{Edge}
use Rattle.tv_model.specs.Heap.{Heap}
use Rattle.tv_model.specs.Rules.{IsHeap}
use Rattle.tv_model.specs.Run.{Stage, GoesOn, BringsFrom, Brings}
use Rattle.tv_model.specs.Step.{FairStep}
use Rattle.tv_model.specs.Valid.{IsValid}
use Rattle.tv_model.proofs.Lists.{Contains-cases}
use Rattle.tv_listing.specs.declared.analysis.MessageLine.{MessageLine}
use Rattle.tv_renaming_laws.specs.Renamed.{renamed}
use Rattle.tv_step_laws.specs.Closed.{HasLine}
use Rattle.tv_start_laws.specs.Copies.{IsCopyBy}
use Rattle.tv_witness_laws.specs.Laws.{SearchesEnd, WitnessesAreLong, WitnessesHaveLines, asks_message}
use Rattle.tv_witness_laws.specs.Search.{Place, HasMet, IsExhaustive, IsExhaustiveTo}
use Rattle.tv_witness_laws.specs.Witness.{Question, HasFewCells, IsSmallRun, IsWitness, ends_at, last_heap}
use Rattle.tv_start_laws.proofs.Copying.{copy-step, copy-back, copy-onward, copy-renamed, renaming-back}
use Rattle.tv_witness_laws.proofs.Aims.{copies_keep_aims}

-- ---- what is met stays met

met-step : (q : Question) → IsValid q.program → (met next : List Place)
    → ((place : Place) → Contains met place → IsHeap q.program place.heap)
    → ((place : Place) → Contains met place → (edge : Edge) → Contains q.program.edges edge → edge.from ≡ place.node
    → (new : Heap) → FairStep q.program q.mode edge place.heap new → HasFewCells q.cells new
    → HasMet next edge.to new)
    → (node : ℕ) (h : Heap) → HasMet met node h → (edge : Edge) → Contains q.program.edges edge → edge.from ≡ node
    → (new : Heap) → FairStep q.program q.mode edge h new → HasFewCells q.cells new → HasMet next edge.to new
met-step q valid met next heaps steps node h (place, has, at, (r, s, by)) edge known leaves new step small =
    let own : Heap = renamed s new
    in let few : HasFewCells q.cells own = subst (λ n. n ≤ q.cells) (sym (length-map new.individuals s)) small
    in let found : HasMet next edge.to own
    = steps place has edge known (leaves ∙ sym at) own
    (copy-step q.program valid q.mode edge r s place.heap h new by (heaps place has) step) few
    in let back : IsCopyBy r s own new = copy-back s r new own (copy-renamed s r (renaming-back r s by.renaming) new)
    in (
      found.0,
      found.1,
      found.2,
      (
        λ u. r (found.3.0 u),
        λ w. found.3.1 (s w),
        copy-onward found.3.0 found.3.1 r s found.0.heap own new found.3.2 back,
      ),
    )

met-same : (met : List Place) (node n : ℕ) (h k : Heap) → n ≡ node → k ≡ h → HasMet met node h → HasMet met n k
met-same met node n h k same_node same_heap is = rw same_node (rw same_heap is)

pub met-all : (q : Question) → IsValid q.program → (met : List Place) → IsExhaustive q met
    → (node : ℕ) (h : Heap) (stages : List Stage)
    → GoesOn q.program q.mode node h stages → All (HasFewCells q.cells) (map (λ stage. stage.heap) stages)
    → HasMet met node h
    → (n : ℕ) (k : Heap) → BringsFrom node h stages n k → HasMet met n k
met-all q valid met all node h [] on small is n k here = met-same met node n h k here.0 here.1 is
met-all q valid met all node h (stage ∷ later) on small is n k (inl here) = met-same met node n h k here.0 here.1 is
met-all q valid met all node h (stage ∷ later) on small is n k (inr there) =
    let rest : List Heap = map (λ stage. stage.heap) later
    in met-all q valid met all stage.edge.to stage.heap later on.3
    (All-tail (HasFewCells q.cells) stage.heap rest small)
    (met-step q valid met met all.heaps all.steps node h is stage.edge on.0 on.1 stage.heap on.2
    (All-head (HasFewCells q.cells) stage.heap rest small))
    n k there

-- a run brings its last heap to where it ends
pub brings-last : (node : ℕ) (h : Heap) (stages : List Stage)
    → BringsFrom node h stages (ends_at node stages) (last_heap h stages)
brings-last node h [] = (refl, refl)
brings-last node h (stage ∷ later) = inr (brings-last stage.edge.to stage.heap later)

pub brings-there : (q : Question) (start : Heap) (stages : List Stage) → IsWitness q start stages
    → Brings start stages q.node (last_heap start stages)
brings-there q start stages w =
    subst (λ n. BringsFrom 0 start stages n (last_heap start stages)) w.there (brings-last 0 start stages)

-- ---- the law

run-met : (q : Question) → IsValid q.program → (met : List Place) → IsExhaustive q met
    → (start : Heap) (stages : List Stage) → IsSmallRun q start stages
    → (node : ℕ) (h : Heap) → Brings start stages node h → HasMet met node h
run-met q valid met all start stages run node h brings =
    let rest : List Heap = map (λ stage. stage.heap) stages
    in met-all q valid met all 0 start stages run.is_run.goes_on (All-tail (HasFewCells q.cells) start rest run.small)
    (all.starts start run.is_run.begins run.from (All-head (HasFewCells q.cells) start rest run.small))
    node h brings

pub searches_end : SearchesEnd
searches_end q valid met all = record {
  meets = run-met q valid met all;
  none = λ closed goals (start, stages, w).
      let is : HasMet met q.node (last_heap start stages)
      = run-met q valid met all start stages w.runs q.node (last_heap start stages) (brings-there q start stages w)
      in goals is.0 is.1 is.2 ((copies_keep_aims q.aim closed is.0.heap (last_heap start stages) is.3).1 w.aim);
}

-- ---- some steps alone

met-within : (q : Question) → IsValid q.program → (within : ℕ → List Place) (bound : ℕ)
    → IsExhaustiveTo q within bound
    → (k node : ℕ) (h : Heap) (stages : List Stage) → k + length stages ≤ bound
    → GoesOn q.program q.mode node h stages
    → All (HasFewCells q.cells) (map (λ stage. stage.heap) stages) → HasMet (within k) node h
    → HasMet (within (k + length stages)) (ends_at node stages) (last_heap h stages)
met-within q valid within bound all k node h [] le on small is =
    let At : ℕ → Type 0 = λ n. HasMet (within n) node h
    in subst At (sym (add-zero k)) is
met-within q valid within bound all k node h (stage ∷ later) le on small is =
    let rest : List Heap = map (λ stage. stage.heap) later
    in let At : ℕ → Type 0 = λ n. HasMet (within n) (ends_at stage.edge.to later) (last_heap stage.heap later)
    in let same : k + 1 + length later ≡ k + suc (length later) = omega arith
    in subst At same
    (met-within q valid within bound all (k + 1) stage.edge.to stage.heap later (omega (arith, le)) on.3
    (All-tail (HasFewCells q.cells) stage.heap rest small)
    (met-step q valid (within k) (within (k + 1)) (all.heaps k) (all.steps k (omega (arith, le))) node h is
    stage.edge on.0 on.1 stage.heap on.2 (All-head (HasFewCells q.cells) stage.heap rest small)))

pub witnesses_are_long : WitnessesAreLong
witnesses_are_long q valid closed within bound all goals start stages w =
    ⊎_elim (λ lt. lt) (λ le. absurd (none le)) (cases_lt bound (length stages))
  where
    none : length stages ≤ bound → ⊥
    none le =
        let rest : List Heap = map (λ stage. stage.heap) stages
        in let n : ℕ = 0 + length stages
        in let is : HasMet (within n) (ends_at 0 stages) (last_heap start stages)
        = met-within q valid within bound all 0 0 start stages (omega (arith, le)) w.runs.is_run.goes_on
        (All-tail (HasFewCells q.cells) start rest w.runs.small)
        (all.starts start w.runs.is_run.begins w.runs.from (All-head (HasFewCells q.cells) start rest w.runs.small))
        in goals n (omega (arith, le)) is.0 is.1 (is.2 ∙ w.there)
        ((copies_keep_aims q.aim closed is.0.heap (last_heap start stages) is.3).1 w.aim)

-- ---- lines

abbrev IsSaid : (edge number : ℕ) → MessageLine → Type 0
IsSaid edge number line = (line.edge ≡ edge) × (line.number ≡ number)

not-first : (edge number : ℕ) (line : MessageLine) (lines : List MessageLine) → ¬ IsSaid edge number line
    → ¬ HasLine lines edge number
    → ¬ HasLine (line ∷ lines) edge number
not-first edge number line lines off none (k, x, lt, is, said) =
    ⊎_elim (λ same. off (subst (IsSaid edge number) (sym same) said)) (λ (j, below, at). none (j, x, below, at, said))
    (Contains-cases line x lines (k, lt, is))

-- whether a message has a line is known
pub line-known : (lines : List MessageLine) (edge number : ℕ)
    → HasLine lines edge number ⊎ (¬ HasLine lines edge number)
line-known [] edge number = inr (λ (k, line, lt, is, said). omega (arith, lt))
line-known (line ∷ lines) edge number =
    at (cases_eq line.edge edge) (cases_eq line.number number) (line-known lines edge number)
  where
    at : (line.edge ≡ edge) ⊎ (line.edge ≡ edge → ⊥) → (line.number ≡ number) ⊎ (line.number ≡ number → ⊥)
        → HasLine lines edge number ⊎ (¬ HasLine lines edge number)
        → HasLine (line ∷ lines) edge number ⊎ (¬ HasLine (line ∷ lines) edge number)
    at one two (inl has) = inl (suc has.0, has.1, omega (arith, has.2), has.3, has.4)
    at (inl one) (inl two) (inr none) = inl (0, line, omega arith, refl, (one, two))
    at (inr not) two (inr none) = inr (not-first edge number line lines (λ e. not e.0) none)
    at (inl one) (inr not) (inr none) = inr (not-first edge number line lines (λ e. not e.1) none)

pub witnesses_have_lines : WitnessesHaveLines
witnesses_have_lines p mode initial listed lines covers edge taken found number m is cells (start, stages, w) =
    at (line-known lines edge number)
  where
    at : HasLine lines edge number ⊎ (¬ HasLine lines edge number) → HasLine lines edge number
    at (inl has) = has
    at (inr none) =
        absurd (covers.messages start stages w.runs.is_run w.runs.from edge taken found number m is none
        (last_heap start stages)
        (brings-there (asks_message p mode initial cells taken m) start stages w) w.aim)
