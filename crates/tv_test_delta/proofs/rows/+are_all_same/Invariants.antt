use Rattle.std.proofs.Common.{length}
use Rattle.tv_test_delta.proofs.rows.+are_all_same.Given as goal

abbrev pub decreases-are_all_same : goal.decreases-are_all_same
decreases-are_all_same l = length l.a.now
