use Rattle.tv_renaming_laws.proofs.Steps.{renaming_keeps_steps}
use Rattle.tv_renaming_laws.proofs.renaming_keeps_steps.Goals as goal

pub returns : goal.returns
returns c = renaming_keeps_steps
