use Rattle.std.proofs.Common.{◌∙◌, length, ap, sym, arith}
use Rattle.tv_row.proofs.PlaceLaws.{length-row_of}
use Rattle.tv_row.proofs.row.Row.size.Goals as goal

pub returns-clause-size : goal.returns-clause-size
returns-clause-size c = sym (length-row_of c.self.inside.words c.self.inside.size 0) ∙ ap length c.self.view_is

pub returns-clause-bound : goal.returns-clause-bound
returns-clause-bound c =
    omega (arith, c.self.invariant.small, length-row_of c.self.inside.words c.self.inside.size 0, ap length c.self.view_is)
