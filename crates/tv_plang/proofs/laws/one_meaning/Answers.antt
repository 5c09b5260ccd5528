use Rattle.tv_plang.proofs.Once.{have_one_meaning}
use Rattle.tv_plang.proofs.laws.one_meaning.Goals as goal

pub returns : goal.returns
returns c = have_one_meaning c.one_source.ensures c.one_meaning.ensures
