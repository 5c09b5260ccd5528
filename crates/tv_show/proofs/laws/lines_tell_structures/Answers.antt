use Rattle.tv_show.proofs.Whole as whole
use Rattle.tv_show.proofs.laws.lines_tell_structures.Goals as goal

pub returns : goal.returns
returns c = whole.lines_tell
