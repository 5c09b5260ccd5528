use Rattle.tv_renaming_laws.proofs.Steps.{renaming_keeps_truth}
use Rattle.tv_renaming_laws.proofs.renaming_keeps_truth.Goals as goal

pub returns : goal.returns
returns c = renaming_keeps_truth
