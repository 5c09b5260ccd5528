-- Definitions that rest on themselves. The predicates that each definition mentions are given as lists, by
-- number.
use Rattle.std.specs.Prelude.{ℕ, zero, suc, ◌<◌, ◌↔◌, Bool, false, IsTrue, ◌&&◌, ◌||◌, ◌==◌, List, [], length}
use Rattle.std.specs.Prelude.{Contains, slice_get, unwrap_or}
use Rattle.std.specs.List.{list_any}
use Rattle.tv_model.specs.Truth.{IsWalk}

-- what the definition of predicate p mentions
abbrev pub mentioned_at : List (List ℕ) → ℕ → List ℕ
mentioned_at uses p = unwrap_or (slice_get uses p) []

abbrev pub MentionsPred : List (List ℕ) → ℕ → ℕ → Type 0
MentionsPred uses p q = Contains (mentioned_at uses p) q

-- p rests on q: one or more steps from a predicate to one that its definition mentions lead from p to q
abbrev pub RestsOn : List (List ℕ) → ℕ → ℕ → Type 0
RestsOn uses p q = (stops : List ℕ) × IsWalk (MentionsPred uses) p stops q

-- some predicate rests on itself
abbrev pub HasCycle : List (List ℕ) → Type 0
HasCycle uses = (p : ℕ) × RestsOn uses p p

-- some ranks fall from each predicate to those that its definition mentions
abbrev pub HasRanks : List (List ℕ) → Type 0
HasRanks uses = (rank : ℕ → ℕ) × ((p q : ℕ) → MentionsPred uses p q → rank q < rank p)

-- ---- the same, decided

-- whether p rests on q over stops below n alone: such a chain passes n or it doesn't (Warshall 1962)
abbrev pub rests_below : List (List ℕ) → ℕ → ℕ → ℕ → Bool
rests_below uses zero p q = list_any (λ r. r == q) (mentioned_at uses p)
rests_below uses (suc n) p q = rests_below uses n p q || (rests_below uses n p n && rests_below uses n n q)

abbrev pub some_below : ℕ → (ℕ → Bool) → Bool
some_below zero test = false
some_below (suc n) test = some_below n test || test n

-- whether some predicate rests on itself
unfoldable pub has_cycle : List (List ℕ) → Bool
has_cycle uses = some_below (length uses) (λ p. rests_below uses (length uses) p p)

-- ---- laws

-- the decision is right
abbrev pub CyclesAreFound : Type 0
CyclesAreFound = (uses : List (List ℕ)) → IsTrue (has_cycle uses) ↔ HasCycle uses

-- no predicate rests on itself exactly where there are ranks
abbrev pub AcyclicHasRanks : Type 0
AcyclicHasRanks = (uses : List (List ℕ)) → (¬ HasCycle uses) ↔ HasRanks uses
