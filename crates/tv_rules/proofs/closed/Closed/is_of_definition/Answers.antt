use Rattle.std.proofs.Common.{ap, arith, length}
use Rattle.tv_rules.proofs.KeptLemmas.{read-at, entries-below}
use Rattle.tv_rules.proofs.KinLaws.{base-below, of-definition}
use Rattle.tv_rules.proofs.closed.Closed.is_of_definition.Goals as goal

pub item_at-entry-requires : goal.item_at-entry-requires
item_at-entry-requires c = omega (arith, entries-below _ _ _ _ _ c.self.invariant.0 _ c.self.view_is _ c.requires, ap length c.as_slice.ensures)

pub item_at-requires : goal.item_at-requires
item_at-requires c =
    omega (
      arith,
      base-below _ _ _ _ _ c.self.invariant.0 _ c.self.view_is c.args.number c.item_at-entry.result.now c.requires
          (read-at _ _ _ _ c.as_slice.ensures c.item_at-entry.ensures),
      ap length c.as_slice-2.ensures,
    )

pub returns : goal.returns
returns c = λ is.
    of-definition _ _ _ _ _ c.self.invariant.0 _ c.self.view_is c.args.p.0 _ c.args.number c.item_at-entry.result.now c.requires
    (read-at _ _ _ _ c.as_slice.ensures c.item_at-entry.ensures) c.item_at.result.now
    (read-at _ _ _ _ c.as_slice-2.ensures c.item_at.ensures) (c.is_defining.ensures is)
