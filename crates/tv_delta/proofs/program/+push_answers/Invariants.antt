use Rattle.std.proofs.Common.{length}
use Rattle.tv_delta.proofs.program.+push_answers.Given as goal

abbrev pub decreases-push_answers : goal.decreases-push_answers
decreases-push_answers l = length l.preds.now
