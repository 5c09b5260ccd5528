use Rattle.tv_witness_laws.proofs.Aims.{copies_keep_aims}
use Rattle.tv_witness_laws.proofs.laws.copies_keep_aims.Goals as goal

pub returns : goal.returns
returns c = copies_keep_aims
