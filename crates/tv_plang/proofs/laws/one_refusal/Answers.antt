use Rattle.tv_plang.proofs.Once.{have_one_refusal}
use Rattle.tv_plang.proofs.laws.one_refusal.Goals as goal

pub returns : goal.returns
returns c = have_one_refusal c.one_source.ensures c.one_meaning.ensures
