-- The occurrences so far.
use Rattle.std.proofs.Common.{map}
use Rattle.tv_model.specs.Program.{rule_of}
use Rattle.tv_coerce.specs.RuleSets.{HasAtLeast}
use Rattle.tv_coerce.proofs.Waking.{IsMovedByFirst}
use Rattle.tv_coerce.proofs.rule_set.RuleSet.insert_families.Given as goal

abbrev pub invariant-loop-occurrence : goal.invariant-loop-occurrence
invariant-loop-occurrence l = HasAtLeast (IsMovedByFirst l.occurrence-index (map rule_of l.closed) l.occurrences) l.initial.self l.self
