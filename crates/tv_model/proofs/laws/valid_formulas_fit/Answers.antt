use Rattle.tv_model.proofs.Formulas.{valid_formulas_fit}
use Rattle.tv_model.proofs.laws.valid_formulas_fit.Goals as goal

pub returns : goal.returns
returns c = valid_formulas_fit
