use Rattle.tv_rules.proofs.DefinedValues.{defined_values_are_stable}
use Rattle.tv_rules.proofs.laws.defined_values_are_stable.Goals as goal

pub returns : goal.returns
returns c = defined_values_are_stable
