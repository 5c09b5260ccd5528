use Rattle.tv_update_laws.proofs.ExactChoices.{choices_are_exact}
use Rattle.tv_update_laws.proofs.laws.choices_are_exact.Goals as goal

pub returns : goal.returns
returns c = λ middle picks retain apart us. choices_are_exact middle picks retain apart us
