use Rattle.tv_front.proofs.OneRefusal.{one_refusal}
use Rattle.tv_front.proofs.laws.one_refusal.Goals as goal

pub returns : goal.returns
returns c = one_refusal c.one_reading.ensures c.one_tree.ensures
