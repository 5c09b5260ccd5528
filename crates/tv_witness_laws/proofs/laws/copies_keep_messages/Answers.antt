use Rattle.tv_witness_laws.proofs.Aims.{copies_keep_messages}
use Rattle.tv_witness_laws.proofs.laws.copies_keep_messages.Goals as goal

pub returns : goal.returns
returns c = copies_keep_messages
