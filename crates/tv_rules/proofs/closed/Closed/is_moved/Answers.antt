use Rattle.std.proofs.Common.{◌≡◌, ap, arith, length, map, subst, sym}
use Rattle.tv_model.specs.Program.{rule_of}
use Rattle.tv_coerce_moves.specs.Occurrences.{MovesOther}
use Rattle.tv_rules.specs.EntryForms.{EntryForm, entry_of}
use Rattle.tv_rules.specs.Moved.{IsMoved}
use Rattle.tv_rules.proofs.KeptLemmas.{entries-below, read-at}
use Rattle.tv_rules.proofs.MovedLaws.{same-entry}
use Rattle.tv_rules.proofs.closed.Closed.is_moved.Goals as goal

pub item_at-entry-requires : goal.item_at-entry-requires
item_at-entry-requires c = omega (arith, entries-below _ _ _ _ _ c.self.invariant.0 _ c.self.view_is _ c.requires, ap length c.as_slice.ensures)

pub returns : goal.returns
returns c = λ moved.
    let s = c.self.inside
    in let here : IsMoved s.bases c.args.occurrence c.args.number = subst (λ bases. IsMoved bases c.args.occurrence c.args.number) (sym c.self.view_is) moved
    in let same : entry_of c.item_at-entry.result.now ≡ here.entry
    = same-entry (map rule_of s.bases) s.entries c.args.number c.item_at-entry.result.now here.entry c.self.invariant.0.kept
    (read-at _ _ _ _ c.as_slice.ensures c.item_at-entry.ensures) here.there
    in c.moves_other.ensures (subst (λ (e : EntryForm). MovesOther e.conjunct c.args.occurrence.moving) (sym same) here.other)
