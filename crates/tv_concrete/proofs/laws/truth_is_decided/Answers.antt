use Rattle.tv_concrete.proofs.Decided.{Truth-decided}
use Rattle.tv_concrete.proofs.laws.truth_is_decided.Goals as goal

pub returns : goal.returns
returns c = λ h a f. Truth-decided h a f
