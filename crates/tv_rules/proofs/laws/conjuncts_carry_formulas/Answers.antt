use Rattle.tv_rules.proofs.Carried.{conjuncts_carry_formulas}
use Rattle.tv_rules.proofs.laws.conjuncts_carry_formulas.Goals as goal

pub returns : goal.returns
returns c = conjuncts_carry_formulas
