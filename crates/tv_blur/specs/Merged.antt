-- Structures with individuals merged: the image of a structure under a map, with joined values.
use Rattle.std.specs.Prelude.{ℕ, ◌≡◌, ◌≢◌, ◌↔◌, ◌⊎◌, List, map, All, Contains, IsTrue}
use Rattle.tv_kleene.specs.declared.K3.{K3}
use Rattle.tv_kleene.specs.Kleene.{LiesUnder}
use Rattle.tv_embedding_laws.specs.LogicalStructure.{LogicalStructure}

-- k is the join of the values: the least value, in the order of information, that all of them lie under
pub record IsJoin (values : K3 → Type 0) (k : K3) : Type 0 where
  pub above : (j : K3) → values j → LiesUnder j k
  pub least : (l : K3) → ((j : K3) → values j → LiesUnder j l) → LiesUnder k l

-- u is one of the individuals that m takes to w
pub record IsMember (m : ℕ → ℕ) (s : LogicalStructure) (w u : ℕ) : Type 0 where
  pub individual : Contains s.individuals u
  pub goes : m u ≡ w

-- k is the value of the predicate at some tuple that m takes to this one
abbrev pub IsValueBelow : (m : ℕ → ℕ) → LogicalStructure → (pred : ℕ) → (tuple : List ℕ) → K3 → Type 0
IsValueBelow m s pred tuple k =
    (below : List ℕ) × All (Contains s.individuals) below × (map m below ≡ tuple) × (s.value pred below ≡ k)

-- some member is a summary
abbrev pub HasSummary : (m : ℕ → ℕ) → LogicalStructure → ℕ → Type 0
HasSummary m s w = (u : ℕ) × IsMember m s w u × IsTrue (s.is_summary u)

-- there are several members
abbrev pub HasSeveral : (m : ℕ → ℕ) → LogicalStructure → ℕ → Type 0
HasSeveral m s w = (u x : ℕ) × IsMember m s w u × IsMember m s w x × (u ≢ x)

-- t is s with the individuals merged that m takes to one: each individual of t has members, a value is
-- the join of the values at all tuples that are taken to the tuple, and an individual is a summary where
-- a member is one, or where it has several
pub record IsMerged (m : ℕ → ℕ) (s t : LogicalStructure) : Type 0 where
  pub into : (u : ℕ) → Contains s.individuals u → Contains t.individuals (m u)
  pub onto : (w : ℕ) → Contains t.individuals w → (u : ℕ) × IsMember m s w u
  pub values : (pred : ℕ) (tuple : List ℕ) → All (Contains t.individuals) tuple
      → IsJoin (IsValueBelow m s pred tuple) (t.value pred tuple)
  pub summaries : (w : ℕ) → Contains t.individuals w
      → IsTrue (t.is_summary w) ↔ (HasSummary m s w ⊎ HasSeveral m s w)
