use Rattle.tv_eval.proofs.Programs.{program_formulas_are_over}
use Rattle.tv_eval.proofs.laws.program_formulas_are_over.Goals as goal

pub returns : goal.returns
returns c = λ program s f is h. program_formulas_are_over program s f is h
