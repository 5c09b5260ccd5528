use Rattle.tv_eval.proofs.Parts.{nones}
use Rattle.tv_eval.proofs.assignment.Assignment.new.Goals as goal

pub returns : goal.returns
returns c = λ v. nones 32 v
