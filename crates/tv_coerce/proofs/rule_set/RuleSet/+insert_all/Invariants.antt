-- The numbers that are left.
use Rattle.std.proofs.Common.{length}
use Rattle.tv_coerce.proofs.rule_set.RuleSet.+insert_all.Given as goal

abbrev pub decreases-insert_all : goal.decreases-insert_all
decreases-insert_all l = length l.numbers.now
