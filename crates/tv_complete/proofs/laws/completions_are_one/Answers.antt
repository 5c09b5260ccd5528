use Rattle.tv_complete.proofs.Determined.{completions-are-one}
use Rattle.tv_complete.proofs.laws.completions_are_one.Goals as goal

pub returns : goal.returns
returns c = completions-are-one
