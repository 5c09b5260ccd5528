use Rattle.tv_start_laws.proofs.Copying.{copies_are_alike}
use Rattle.tv_start_laws.proofs.copies_are_alike.Goals as goal

pub returns : goal.returns
returns c = copies_are_alike
