-- What a stage of focus answers.
use Rattle.std.specs.Prelude.{ℕ, ◌≡◌, ◌<◌, ◌≤◌, List, length, All, Any}
use Rattle.tv_model.specs.Form.{Form}
use Rattle.tv_model.specs.Heap.{Heap}
use Rattle.tv_embedding_laws.specs.Embedding.{IsHeapOf}
use Rattle.tv_structure_form.specs.StructureForm.{StructureForm, structure_of}
use Rattle.tv_struct.specs.declared.analysis.StageError.{StageError}
use Rattle.tv_struct.specs.declared.analysis.StageError.TheVariants.{Splits, Individuals, Memory}
use Rattle.tv_focus_laws.specs.Choices.{AimForm, SplitForm, Nothing, Whole, Each}
use Rattle.tv_focus_laws.specs.Counts.{choice_count, largest_size}
use Rattle.tv_focus_laws.specs.Stages.{stage}

-- there are at most 4,096 choices, and none has over 256 individuals
pub record IsWithinLimits (s : StructureForm) (f : Form) (k : ℕ) : Type 0 where
  pub few : length (stage (structure_of s) f k) ≤ 4096
  pub small : All (λ t. length t.individuals ≤ 256) (stage (structure_of s) f k)

-- why a stage gives no structures: over 4,096 choices; or not, and a choice of over 256 individuals
abbrev pub IsStageCause : StructureForm → Form → ℕ → StageError → Type 0
IsStageCause s f k Splits = 4096 < length (stage (structure_of s) f k)
IsStageCause s f k Individuals =
    (length (stage (structure_of s) f k) ≤ 4096)
    × Any (λ t. 256 < length t.individuals) (stage (structure_of s) f k)
IsStageCause s f k Memory = Unit {0}

-- each heap of the structure is one of one of these
abbrev pub KeepsHeaps : StructureForm → List StructureForm → Type 0
KeepsHeaps s ts = (h : Heap) → IsHeapOf h (structure_of s) → Any (λ t. IsHeapOf h (structure_of t)) ts

-- the same limits and causes, by the numbers of an aim
pub record AreLimitsKept (s : StructureForm) (pred : ℕ) (aim : AimForm) : Type 0 where
  pub few : choice_count (structure_of s) pred aim ≤ 4096
  pub small : largest_size (structure_of s) pred aim ≤ 256

abbrev pub IsEachCause : StructureForm → (pred : ℕ) → AimForm → StageError → Type 0
IsEachCause s pred aim Splits = 4096 < choice_count (structure_of s) pred aim
IsEachCause s pred aim Individuals =
    (choice_count (structure_of s) pred aim ≤ 4096) × (256 < largest_size (structure_of s) pred aim)
IsEachCause s pred aim Memory = Unit {0}

abbrev pub AreSplitLimitsKept : StructureForm → (pred : ℕ) → SplitForm → Type 0
AreSplitLimitsKept s pred Nothing = Unit {0}
AreSplitLimitsKept s pred Whole = Unit {0}
AreSplitLimitsKept s pred (Each aim) = AreLimitsKept s pred aim

-- lack of memory, or the cause of an aim
abbrev pub IsSplitCause : StructureForm → (pred : ℕ) → SplitForm → StageError → Type 0
IsSplitCause s pred Nothing fault = fault ≡ Memory
IsSplitCause s pred Whole fault = fault ≡ Memory
IsSplitCause s pred (Each aim) fault = IsEachCause s pred aim fault
