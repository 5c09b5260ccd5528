-- Keys of structures, and joins of structures of one key: the partly disjunctive abstraction (Manevich,
-- Sagiv, Ramalingam and Field, Partially disjunctive heap abstraction, SAS 2004), in which structures with
-- the same individuals and the same nullary values become one.
use Rattle.std.specs.Prelude.{ℕ, ◌≡◌, ◌<◌, ◌↔◌, ◌==◌, List, [], None, map, IsTrue}
use Rattle.std.specs.List.{range_with_len}
use Rattle.tv_kleene.specs.declared.K3.{K3}
use Rattle.tv_model.specs.Program.{ProgramForm}
use Rattle.tv_structure_form.specs.TableForm.{HasEntry}
use Rattle.tv_structure_form.specs.StructureForm.{StructureForm, IsStructure, structure_of, table_of}
use Rattle.tv_structure_form.specs.StructureForm.{value_at}
use Rattle.tv_structure_form.specs.StructureForm.{summary_at, kept_from}
use Rattle.tv_blur.specs.Merged.{IsJoin}
use Rattle.tv_blur.specs.Names.{canonical_name}
use Rattle.tv_step_laws.specs.Shaped.{IsShaped, telling_preds}

-- the program's nullary predicates, by number
abbrev pub nullary_preds : ProgramForm → List ℕ
nullary_preds p = kept_from 0 (map (λ d. d.arity == 0) p.preds)

-- values of the nullary predicates, and names of individuals, in order
pub record Key : Type 0 where
  pub nullary : List K3
  pub names : List (List K3)

-- the key of a structure
abbrev pub key_of : ProgramForm → StructureForm → Key
key_of p s = record {
  nullary = map (λ pred. value_at s pred []) (nullary_preds p);
  names = map (canonical_name (telling_preds p) (structure_of s)) (range_with_len 0 s.size);
}

-- k is the value at the tuple in one of the structures
abbrev pub IsValueIn : (StructureForm → Type 0) → (pred : ℕ) → (tuple : List ℕ) → K3 → Type 0
IsValueIn X pred tuple k = (s : StructureForm) × X s × (value_at s pred tuple ≡ k)

-- t is the join of these structures, which all have its individuals: each value is the join of theirs, an
-- individual is a summary where it is one in one of them, and none is marked
pub record IsJoinOf (p : ProgramForm) (X : StructureForm → Type 0) (t : StructureForm) : Type 0 where
  pub is : IsStructure t
  pub shaped : IsShaped p t
  pub sizes : (s : StructureForm) → X s → s.size ≡ t.size
  pub values : (pred : ℕ) (tuple : List ℕ) → HasEntry (table_of t) pred tuple
      → IsJoin (IsValueIn X pred tuple) (value_at t pred tuple)
  pub summaries : (u : ℕ) → u < t.size
      → IsTrue (summary_at t u) ↔ ((s : StructureForm) × X s × IsTrue (summary_at s u))
  pub unmarked : t.fresh ≡ None

-- those of the structures that have the key
abbrev pub HasKey : ProgramForm → (StructureForm → Type 0) → Key → StructureForm → Type 0
HasKey p X key s = X s × (key_of p s ≡ key)

-- t is one of the joins by key of these structures: the join of all that have some key that occurs
abbrev pub IsJoinByKey : ProgramForm → (StructureForm → Type 0) → StructureForm → Type 0
IsJoinByKey p X t = (key : Key) × ((s : StructureForm) × HasKey p X key s) × IsJoinOf p (HasKey p X key) t
