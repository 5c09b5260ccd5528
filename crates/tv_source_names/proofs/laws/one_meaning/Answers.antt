use Rattle.tv_source_names.proofs.Kept as kept
use Rattle.tv_source_names.proofs.laws.one_meaning.Goals as goal

pub returns : goal.returns
returns c = kept.one_meaning
