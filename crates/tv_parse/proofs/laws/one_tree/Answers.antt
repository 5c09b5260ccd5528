use Rattle.tv_parse.proofs.ProgramLaws.{one_tree}
use Rattle.tv_parse.proofs.laws.one_tree.Goals as goal

pub returns : goal.returns
returns c = λ ts t u. one_tree ts t u
