use Rattle.tv_stages_laws.proofs.Ends.{stages-end}
use Rattle.tv_stages_laws.proofs.laws.stages_end_in_results.Goals as goal

pub returns : goal.returns
returns c = stages-end
