use Rattle.tv_parse.proofs.SpelledPrograms.{program_spelled}
use Rattle.tv_parse.proofs.laws.programs_are_spelled.Goals as goal

pub returns : goal.returns
returns c = λ ts t is are. program_spelled ts t is are
