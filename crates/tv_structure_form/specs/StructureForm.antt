-- The structures that the analysis works on: a table of values, the summaries, and the fresh individual.
use Rattle.std.specs.Prelude.{ℕ, ◌≡◌, ◌<◌, ◌+◌, Bool, true, false, List, [], ◌∷◌, ◌++◌, length, map, Option}
use Rattle.std.specs.Prelude.{Some, None, slice_index_or, slice_set, replicate, sum, take}
use Rattle.std.specs.List.{range_with_len}
use Rattle.std.specs.Option.{option_map}
use Rattle.tv_kleene.specs.declared.K3.{K3}
use Rattle.tv_model.specs.declared.program.Vocab.{Vocab}
use Rattle.tv_embedding_laws.specs.LogicalStructure.{LogicalStructure}
use Rattle.tv_structure_form.specs.TableForm.{PlaneForm, TableForm, IsTable, arities_in, entry, with_entry}
use Rattle.tv_structure_form.specs.TableForm.{table_of_no, plane_drawn, selected}

-- a structure over the individuals 0 to size - 1: whether each is a summary, the values of each
-- predicate, and the fresh individual
pub record StructureForm : Type 0 where
  pub size : ℕ
  pub summaries : List Bool
  pub planes : List PlaneForm
  pub fresh : Option ℕ

-- the table of its values
abbrev pub table_of : StructureForm → TableForm
table_of s = record { size = s.size; planes = s.planes }

-- the value of a predicate at a tuple, No where the tuple hasn't the predicate's arity
abbrev pub value_at : StructureForm → (pred : ℕ) → (tuple : List ℕ) → K3
value_at s pred tuple = entry (table_of s) pred tuple

-- whether an individual is a summary
abbrev pub summary_at : StructureForm → ℕ → Bool
summary_at s u = slice_index_or s.summaries u false

-- the structure that the tables stand for
abbrev pub structure_of : StructureForm → LogicalStructure
structure_of s = record {
  individuals = range_with_len 0 s.size;
  value = value_at s;
  is_summary = summary_at s;
  fresh = s.fresh;
}

abbrev pub arities_of : StructureForm → List ℕ
arities_of s = arities_in s.planes

-- the structure is over the vocabulary
abbrev pub IsOver : Vocab → StructureForm → Type 0
IsOver vocab s = arities_of s ≡ map (λ pred. pred.arity) vocab.preds

-- the fresh individual is one of the structure's, and no summary
abbrev pub IsMark : StructureForm → Option ℕ → Type 0
IsMark s None = Unit {0}
IsMark s (Some u) = (u < s.size) × (summary_at s u ≡ false)

-- what every structure keeps
pub record IsStructure (s : StructureForm) : Type 0 where
  pub table : IsTable (table_of s)
  pub summaries : length s.summaries ≡ s.size
  pub fresh : IsMark s s.fresh

-- the structure of that size that has No everywhere and no summaries
abbrev pub structure_of_no : (size : ℕ) → (arities : List ℕ) → StructureForm
structure_of_no size arities = record {
  size = size;
  summaries = replicate size false;
  planes = (table_of_no size arities).planes;
  fresh = None;
}

-- the structure with the value put at an entry
abbrev pub with_value : StructureForm → (pred : ℕ) → (tuple : List ℕ) → K3 → StructureForm
with_value s pred tuple k = record s { planes = (with_entry (table_of s) pred tuple k).planes }

abbrev pub with_summary : StructureForm → ℕ → Bool → StructureForm
with_summary s u on = record s { summaries = slice_set s.summaries u on }

-- the structure without its mark
abbrev pub unmarked : StructureForm → StructureForm
unmarked s = record s { fresh = None }

-- the structure over one individual for each of the origins, with the origins' values
abbrev pub drawn : (origins : List ℕ) → (fresh : Option ℕ) → StructureForm → StructureForm
drawn origins fresh s = record {
  size = length origins;
  summaries = selected false s.summaries origins;
  planes = map (plane_drawn origins) s.planes;
  fresh = fresh;
}

-- the structure and one further, last individual, with No everywhere, no summary, and marked alone
abbrev pub with_new : StructureForm → StructureForm
with_new s = drawn (range_with_len 0 (s.size + 1)) (Some s.size) s

-- the places from n on of the flags that are true
abbrev pub kept_from : ℕ → List Bool → List ℕ
kept_from n [] = []
kept_from n (true ∷ keep) = n ∷ kept_from (n + 1) keep
kept_from n (false ∷ keep) = kept_from (n + 1) keep

-- the individuals whose flag is true, in order, none of them marked
abbrev pub without : StructureForm → (keep : List Bool) → StructureForm
without s keep = drawn (kept_from 0 keep) None s

-- the numbers from n on, each as often as its part says
abbrev pub copies_from : ℕ → (parts : List ℕ) → List ℕ
copies_from n [] = []
copies_from n (part ∷ parts) = replicate part n ++ copies_from (n + 1) parts

-- each individual as many copies beside each other as its part says; the mark stays on its one copy
abbrev pub split : StructureForm → (parts : List ℕ) → StructureForm
split s parts = drawn (copies_from 0 parts) (option_map (λ u. sum (take u parts)) s.fresh) s
