use Rattle.std.proofs.Common.{ap, arith, length}
use Rattle.tv_rules.proofs.KeptLemmas.{read-at, entries-below, shapes-below}
use Rattle.tv_rules.proofs.KinLaws.{kin-tried, laid-out}
use Rattle.tv_rules.proofs.closed.Closed.shape.Goals as goal

pub item_at-entry-requires : goal.item_at-entry-requires
item_at-entry-requires c = omega (arith, entries-below _ _ _ _ _ c.self.invariant.0 _ c.self.view_is _ c.requires, ap length c.as_slice.ensures)

pub item_at-requires : goal.item_at-requires
item_at-requires c =
    omega (arith, shapes-below _ _ _ _ _ c.self.invariant.0 _ _ (read-at _ _ _ _ c.as_slice.ensures c.item_at-entry.ensures), ap length c.as_slice-2.ensures)

pub returns-clause-laid : goal.returns-clause-laid
returns-clause-laid c =
    laid-out _ _ _ _ _ c.self.invariant.0 _ c.self.view_is c.args.number c.item_at-entry.result.now c.item_at.result.now c.requires
    (read-at _ _ _ _ c.as_slice.ensures c.item_at-entry.ensures) (read-at _ _ _ _ c.as_slice-2.ensures c.item_at.ensures)

pub returns-clause-kin : goal.returns-clause-kin
returns-clause-kin c = λ n rule kin there.
    kin-tried _ _ _ _ _ c.self.invariant.0 _ c.self.view_is c.args.number c.item_at-entry.result.now c.item_at.result.now
    (read-at _ _ _ _ c.as_slice.ensures c.item_at-entry.ensures) (read-at _ _ _ _ c.as_slice-2.ensures c.item_at.ensures) n rule kin there
