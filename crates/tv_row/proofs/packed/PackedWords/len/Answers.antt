use Rattle.std.proofs.Common.{sym, ◌≤◌, subst}
use Rattle.tv_row.proofs.PackedLaws.{fills_some, seen_cells, seen_many, seen_long}
use Rattle.tv_row.proofs.packed.PackedWords.len.Goals as goal

pub returns-clause-value : goal.returns-clause-value
returns-clause-value c = sym (seen_many c.self.inside.items.items c.self.inside.cells c.self.inside.count c.args.self.now c.self.view_is)

pub returns-clause-cells : goal.returns-clause-cells
returns-clause-cells c =
    subst (λ n. n ≤ 64) (sym (seen_cells c.self.inside.items.items c.self.inside.cells c.self.inside.count c.args.self.now c.self.view_is))
    (fills_some c.self.inside.cells c.self.invariant.fills).1

pub returns-clause-words : goal.returns-clause-words
returns-clause-words c = seen_long c.self.inside.items.items c.self.inside.cells c.self.inside.count c.args.self.now c.self.view_is
