use Rattle.tv_parse.proofs.ProgramLaws.{read_is_program, program_is_read}
use Rattle.tv_parse.proofs.laws.programs_are_read.Goals as goal

pub returns : goal.returns
returns c = λ ts t. (read_is_program ts t, program_is_read ts t)
