-- Focus on tables.
use Rattle.std.specs.Prelude.{ℕ, ◌≡◌, ◌≢◌, ◌<◌, List, length, map, Any, Contains}
use Rattle.tv_kleene.specs.declared.K3.{K3}
use Rattle.std.specs.List.{AllZip}
use Rattle.tv_model.specs.Form.{Form}
use Rattle.tv_model.specs.Heap.{Heap}
use Rattle.tv_embedding_laws.specs.LogicalStructure.{LogicalStructure}
use Rattle.tv_embedding_laws.specs.Embedding.{IsHeapOf}
use Rattle.tv_structure_form.specs.TableForm.{HasEntry}
use Rattle.tv_structure_form.specs.StructureForm.{StructureForm, IsStructure, split, table_of, value_at}
use Rattle.tv_structure_form.specs.StructureForm.{summary_at}
use Rattle.tv_structure_form.specs.StructureForm.{structure_of, arities_of}
use Rattle.tv_focus_laws.specs.Choices.{ChoiceForm, AimForm, MemberForm, members, focused_value, choices}
use Rattle.tv_focus_laws.specs.Choices.{chosen}
use Rattle.tv_focus_laws.specs.Stages.{stage}

-- the table shows the structure, at each of its entries
pub record Shows (t : StructureForm) (l : LogicalStructure) : Type 0 where
  pub individuals : (structure_of t).individuals ≡ l.individuals
  pub values : (pred : ℕ) (tuple : List ℕ) → HasEntry (table_of t) pred tuple
      → value_at t pred tuple ≡ l.value pred tuple
  pub summaries : (u : ℕ) → u < t.size → summary_at t u ≡ l.is_summary u
  pub fresh : t.fresh ≡ l.fresh

-- with the predicates of s
pub record ShowsOver (s t : StructureForm) (l : LogicalStructure) : Type 0 where
  pub is : IsStructure t
  pub over : arities_of t ≡ arities_of s
  pub shows : Shows t l

-- the tables are those of the k-th atom of the formula in s, in order
abbrev pub AreStage : StructureForm → Form → ℕ → List StructureForm → Type 0
AreStage s f k ts = AllZip (ShowsOver s) ts (stage (structure_of s) f k)

-- there is one such list at most, and each heap of s is one of one of these tables
pub record StageKeepsHeaps (s : StructureForm) (f : Form) (k : ℕ) (ts : List StructureForm) : Type 0 where
  pub one : (us : List StructureForm) → AreStage s f k us → us ≡ ts
  pub heaps : (h : Heap) → IsHeapOf h (structure_of s) → Any (λ t. IsHeapOf h (structure_of t)) ts

abbrev pub TablesLoseNoHeap : Type 0
TablesLoseNoHeap =
    (s : StructureForm) (f : Form) (k : ℕ) (ts : List StructureForm) → AreStage s f k ts
    → StageKeepsHeaps s f k ts

-- ---- how a choice comes from a split

-- how many copies each individual has
abbrev pub parts_of : ChoiceForm → List ℕ
parts_of choice = map length choice

-- the split table, in which the focused predicate has the values of the choice
pub record IsSplitBy (s : StructureForm) (pred : ℕ) (aim : AimForm) (choice : ChoiceForm)
    (t : StructureForm) : Type 0 where
  pub is : IsStructure t
  pub over : arities_of t ≡ arities_of s
  pub size : t.size ≡ (split s (parts_of choice)).size
  pub summaries : t.summaries ≡ (split s (parts_of choice)).summaries
  pub fresh : t.fresh ≡ (split s (parts_of choice)).fresh
  pub others : (q : ℕ) (tuple : List ℕ) → q ≢ pred → HasEntry (table_of t) q tuple
      → value_at t q tuple ≡ value_at (split s (parts_of choice)) q tuple
  pub focused : (tuple : List ℕ) → HasEntry (table_of t) pred tuple
      → value_at t pred tuple
      ≡ focused_value (structure_of s) pred aim (members (structure_of s).individuals choice) tuple

abbrev pub SplitsShowChoices : Type 0
SplitsShowChoices =
    (s : StructureForm) (pred : ℕ) (aim : AimForm) (choice : ChoiceForm) (t : StructureForm) → IsStructure s
    → Contains (choices (structure_of s) pred aim) choice → IsSplitBy s pred aim choice t
    → ShowsOver s t (chosen (structure_of s) pred aim choice)
