use Rattle.tv_start_laws.proofs.Beginning.{copies_keep_starts}
use Rattle.tv_start_laws.proofs.copies_keep_starts.Goals as goal

pub returns : goal.returns
returns c = copies_keep_starts
