-- The structures of one focus atom.
use Rattle.std.specs.Prelude.{ℕ, ◌==◌, List, [], ◌∷◌, map, slice_index_or, if◌then◌else◌}
use Rattle.tv_kleene.specs.declared.K3.{K3}
use Rattle.tv_model.specs.Form.{Form}
use Rattle.tv_embedding_laws.specs.LogicalStructure.{LogicalStructure}
use Rattle.tv_focus_laws.specs.FocusAtoms.{AtomForm, AnchorsForm, focus_atoms, anchors_in}
use Rattle.tv_focus_laws.specs.Choices.{SplitForm, Nothing, Whole, Each, split_of, definite, choices, chosen}

-- the value k for a nullary predicate, and the structure's values for all else
abbrev pub whole_value : LogicalStructure → (pred : ℕ) → K3 → (q : ℕ) → (tuple : List ℕ) → K3
whole_value s pred k q [] = if q == pred then k else s.value q []
whole_value s pred k q (u ∷ more) = s.value q (u ∷ more)

abbrev pub with_whole : LogicalStructure → (pred : ℕ) → K3 → LogicalStructure
with_whole s pred k = record s { value = whole_value s pred k }

-- the structures that focus makes of one, in order
abbrev pub split_structures : LogicalStructure → (pred : ℕ) → SplitForm → List LogicalStructure
split_structures s pred Nothing = s ∷ []
split_structures s pred Whole = map (with_whole s pred) (definite (s.value pred []))
split_structures s pred (Each aim) = map (chosen s pred aim) (choices s pred aim)

abbrev pub no_atom : AtomForm
no_atom = record { pred = 0; vars = [] }

abbrev pub atom_at : Form → ℕ → AtomForm
atom_at f k = slice_index_or (focus_atoms f) k no_atom

-- what focus does with the k-th atom of the formula
abbrev pub split_at : LogicalStructure → Form → ℕ → SplitForm
split_at s f k = split_of (anchors_in s (focus_atoms f)) (atom_at f k).vars

-- the structures of the k-th atom of the formula
abbrev pub stage : LogicalStructure → Form → ℕ → List LogicalStructure
stage s f k = split_structures s (atom_at f k).pred (split_at s f k)
