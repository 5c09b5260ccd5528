use Rattle.tv_eval_laws.proofs.Walks.{closures_are_greatest}
use Rattle.tv_eval_laws.proofs.laws.closures_are_greatest.Goals as goal

pub returns : goal.returns
returns c = λ s a from to left right f. closures_are_greatest s a from to left right f
