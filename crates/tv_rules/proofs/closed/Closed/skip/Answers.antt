use Rattle.std.proofs.Common.{◌-◌, ap, ◌∙◌, arith, length, unwrap_or}
use Rattle.tv_rules.specs.EntryForms.{rules_of}
use Rattle.tv_rules.proofs.KeptLemmas.{read-at, entries-below, shapes-below, members-some}
use Rattle.tv_rules.proofs.KinLaws.{skip-is}
use Rattle.tv_rules.proofs.closed.Closed.skip.Goals as goal

pub item_at-entry-requires : goal.item_at-entry-requires
item_at-entry-requires c = omega (arith, entries-below _ _ _ _ _ c.self.invariant.0 _ c.self.view_is _ c.requires, ap length c.as_slice.ensures)

pub item_at-shape-requires : goal.item_at-shape-requires
item_at-shape-requires c =
    omega (arith, shapes-below _ _ _ _ _ c.self.invariant.0 _ _ (read-at _ _ _ _ c.as_slice.ensures c.item_at-entry.ensures), ap length c.as_slice-2.ensures)

pub skipped-requires : goal.skipped-requires
skipped-requires c =
    let count = ap (λ bases. length (rules_of bases)) c.self.view_is
    in omega (
      arith,
      c.len.ensures,
      members-some _ _ _ _ _ c.self.invariant.0 c.args.number c.item_at-entry.result.now
          c.item_at-shape.result.now (omega (arith, c.requires, count)) (read-at _ _ _ _ c.as_slice.ensures c.item_at-entry.ensures)
          (read-at _ _ _ _ c.as_slice-2.ensures c.item_at-shape.ensures),
    )

pub returns : goal.returns
returns c =
    let e = c.item_at-entry.result.now
    in skip-is _ _ _ _ _ c.self.invariant.0 _ c.self.view_is c.args.number e c.item_at-shape.result.now c.requires
    (read-at _ _ _ _ c.as_slice.ensures c.item_at-entry.ensures) (read-at _ _ _ _ c.as_slice-2.ensures c.item_at-shape.ensures)
    c.skipped.result (c.skipped.ensures ∙ ap (λ n. unwrap_or e.conjunct (n - 1)) c.len.ensures)
