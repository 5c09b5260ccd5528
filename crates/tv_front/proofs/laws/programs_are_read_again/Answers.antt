use Rattle.tv_front.proofs.Programs.{programs_again}
use Rattle.tv_front.proofs.laws.programs_are_read_again.Goals as goal

pub returns : goal.returns
returns c = programs_again
