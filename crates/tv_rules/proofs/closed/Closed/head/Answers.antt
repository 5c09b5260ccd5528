use Rattle.std.proofs.Common.{ap, sym, ◌∙◌, arith, length, slice_get}
use Rattle.tv_rules.specs.EntryForms.{rules_of}
use Rattle.tv_rules.proofs.KeptLemmas.{count-of, head-is}
use Rattle.tv_rules.proofs.closed.Closed.head.Goals as goal

pub item_at-requires : goal.item_at-requires
item_at-requires c =
    let count = count-of c.self.inside.bases c.self.inside.shapes c.self.inside.entries c.self.inside.by_pred
    c.self.inside.by_sm c.self.invariant.0
    in let same = ap (λ bases. length (rules_of bases)) c.self.view_is
    in let read = ap length c.as_slice.ensures
    in omega (arith, c.requires, count, same, read)

pub returns : goal.returns
returns c =
    λ rule there. head-is c.self.inside.bases c.self.inside.shapes c.self.inside.entries c.self.inside.by_pred
    c.self.inside.by_sm c.self.invariant.0
    c.args.number rule c.item_at.result.now
    (ap (λ bases. slice_get (rules_of bases) c.args.number) c.self.view_is ∙ there)
    (sym (ap (λ entries. slice_get entries c.args.number) c.as_slice.ensures) ∙ c.item_at.ensures)
