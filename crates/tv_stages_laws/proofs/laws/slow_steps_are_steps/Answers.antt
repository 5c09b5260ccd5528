use Rattle.tv_stages_laws.proofs.Ends.{recorded-results}
use Rattle.tv_stages_laws.proofs.laws.slow_steps_are_steps.Goals as goal

pub returns : goal.returns
returns c = λ p mode edge s step is. recorded-results p mode edge s step is.stages is
