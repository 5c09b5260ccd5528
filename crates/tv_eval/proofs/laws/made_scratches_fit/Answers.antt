use Rattle.tv_eval.proofs.Programs.{made_scratches_fit, within_height}
use Rattle.tv_eval.proofs.laws.made_scratches_fit.Goals as goal

pub returns-clause-fit : goal.returns-clause-fit
returns-clause-fit c = λ p n m scratch f made high le. made_scratches_fit p n m scratch f made high le

pub returns-clause-heights : goal.returns-clause-heights
returns-clause-heights c = λ p. within_height p
