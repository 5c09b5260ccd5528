use Rattle.std.proofs.Common.{◌∙◌}
use Rattle.tv_struct.proofs.RowLaws.{unary_row_is}
use Rattle.tv_struct.proofs.structure.Structure.unary_row.Goals as goal

pub returns : goal.returns
returns c =
    rw (← c.self.view_is)
    (c.row.ensures.value ∙ unary_row_is _ c.args.p.0 c.self.invariant (rw (← c.self.view_is) at c.requires))
