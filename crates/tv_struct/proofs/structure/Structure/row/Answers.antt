use Rattle.std.proofs.Common.{◌∙◌}
use Rattle.tv_struct.proofs.RowLaws.{row_at_is}
use Rattle.tv_struct.proofs.structure.Structure.row.Goals as goal

pub returns : goal.returns
returns c =
    rw (← c.self.view_is)
    (c.row.ensures.value
    ∙ row_at_is _ c.args.p.0 c.args.u c.self.invariant (rw (← c.self.view_is) at c.requires.arity) (rw (← c.self.view_is) at c.requires.individual))
