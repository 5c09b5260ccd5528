use Rattle.tv_struct.proofs.OrderLaws.{same_from_order}
use Rattle.tv_struct.proofs.structure.Structure.compare.Goals as goal

pub returns-clause-equal : goal.returns-clause-equal
returns-clause-equal c = same_from_order c.args.self.now c.args.other.now c.order_to.result c.order_to.ensures
