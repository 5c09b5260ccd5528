-- Splits: maps onto a structure that keep values exactly, however many individuals go to one.
use Rattle.std.specs.Prelude.{ℕ, ◌≡◌, ◌↔◌, IsTrue, List, map, All, Contains}
use Rattle.tv_model.specs.Program.{RuleForm}
use Rattle.tv_model.specs.Valid.{NamesNew}
use Rattle.tv_embedding_laws.specs.LogicalStructure.{LogicalStructure}
use Rattle.tv_rules.specs.Standing.{StandsIn, HasEqualityIn, HasTwice}

-- m takes s onto t, and keeps every value of the predicates of P exactly; it may take several individuals
-- to one, and says nothing of summaries and marks
pub record KeepsValues (P : ℕ → Type 0) (m : ℕ → ℕ) (s t : LogicalStructure) : Type 0 where
  pub into : (u : ℕ) → Contains s.individuals u → Contains t.individuals (m u)
  pub onto : (w : ℕ) → Contains t.individuals w → (u : ℕ) × Contains s.individuals u × (m u ≡ w)
  pub values : (pred : ℕ) → P pred → (tuple : List ℕ) → All (Contains s.individuals) tuple
      → s.value pred tuple ≡ t.value pred (map m tuple)

-- m keeps the values of all predicates that stand in the rule
abbrev pub KeepsRuleValues : RuleForm → (ℕ → ℕ) → LogicalStructure → LogicalStructure → Type 0
KeepsRuleValues rule m s t = KeepsValues (λ pred. StandsIn pred rule) m s t

-- what m takes to a summary is one
abbrev pub KeepsSummaries : (ℕ → ℕ) → LogicalStructure → LogicalStructure → Type 0
KeepsSummaries m s t =
    (u : ℕ) → Contains s.individuals u → IsTrue (t.is_summary (m u)) → IsTrue (s.is_summary u)

-- no equality stands in the rule, and its body doesn't speak of a fresh individual
pub record IsRuleOfAtoms (rule : RuleForm) : Type 0 where
  pub atoms : ¬ HasEqualityIn rule
  pub unmarked : ¬ NamesNew rule.body

-- neither has its head one variable twice
pub record IsRuleOfTuples (rule : RuleForm) : Type 0 where
  pub of_atoms : IsRuleOfAtoms rule
  pub differ : ¬ HasTwice rule.head

-- the rule sees no difference between the structures: they have the same individuals and the same
-- summaries, and the predicates that stand in the rule have the same values
pub record IsUntouched (rule : RuleForm) (s t : LogicalStructure) : Type 0 where
  pub individuals : (u : ℕ) → Contains s.individuals u ↔ Contains t.individuals u
  pub values : (pred : ℕ) → StandsIn pred rule → (tuple : List ℕ) → All (Contains s.individuals) tuple
      → s.value pred tuple ≡ t.value pred tuple
  pub summaries : (u : ℕ) → Contains s.individuals u → s.is_summary u ≡ t.is_summary u
