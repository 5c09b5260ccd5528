use Rattle.tv_struct.proofs.HeldLaws.{now_table}
use Rattle.tv_struct.proofs.planes.PlanesTable.size.Goals as goal

pub returns-clause-one_value_each : goal.returns-clause-one_value_each
returns-clause-one_value_each c = now_table c.self.inside.layout c.self.inside.words.words c.args.self.now c.self.view_is c.self.invariant.table
