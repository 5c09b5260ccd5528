use Rattle.std.proofs.Common.{◌+◌, ◌*◌, ◌∙◌}
use Rattle.tv_struct.proofs.RowLaws.{row-entry}
use Rattle.tv_struct.proofs.structure.Structure.column_word.Goals as goal

pub returns-clause-values : goal.returns-clause-values
returns-clause-values c =
    rw (← c.self.view_is)
    (λ i low within.
    c.column_word.ensures.values i low within
    ∙ row-entry _ c.args.p.0 (64 * c.args.chunk + i) c.args.w c.self.invariant (rw (← c.self.view_is) at c.requires.arity) within
    (rw (← c.self.view_is) at c.requires.individual))
