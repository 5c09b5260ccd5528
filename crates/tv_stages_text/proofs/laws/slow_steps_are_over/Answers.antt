use Rattle.tv_stages_text.proofs.OverAll.{all_over}
use Rattle.tv_stages_text.proofs.laws.slow_steps_are_over.Goals as goal

pub returns : goal.returns
returns c = all_over
