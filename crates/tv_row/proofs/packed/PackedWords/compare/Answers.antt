use Rattle.std.proofs.Common.{◌∙◌, length, ap, sym}
use Rattle.std.specs.Cmp.Lexicographic.{slice_cmp}
use Rattle.tv_row.specs.Bits.{value_cmp}
use Rattle.tv_row.proofs.PackedLaws.{seen_compare, seen_long}
use Rattle.tv_row.proofs.packed.PackedWords.compare.Goals as goal

pub compare-requires : goal.compare-requires
compare-requires c =
    ap length c.deref.ensures.value
    ∙ (seen_compare c.self.inside.items.items c.other.inside.items.items c.self.inside.cells c.other.inside.cells c.self.inside.count
    c.other.inside.count c.args.self.now c.args.other.now c.self.view_is c.other.view_is c.self.invariant c.other.invariant c.requires.cells
    c.requires.count).0
    ∙ sym (ap length c.deref-2.ensures.value)

pub returns-clause-value : goal.returns-clause-value
returns-clause-value c =
    c.compare.ensures
    ∙ ap (λ ws. slice_cmp (slice_cmp value_cmp) ws c.deref-2.result.now) c.deref.ensures.value
    ∙ ap (slice_cmp (slice_cmp value_cmp) c.self.inside.items.items) c.deref-2.ensures.value
    ∙ (seen_compare c.self.inside.items.items c.other.inside.items.items c.self.inside.cells c.other.inside.cells c.self.inside.count
    c.other.inside.count c.args.self.now c.args.other.now c.self.view_is c.other.view_is c.self.invariant c.other.invariant c.requires.cells
    c.requires.count).1

pub returns-clause-words : goal.returns-clause-words
returns-clause-words c =
    (seen_long c.self.inside.items.items c.self.inside.cells c.self.inside.count c.args.self.now c.self.view_is, seen_long c.other.inside.items.items c.other.inside.cells c.other.inside.count c.args.other.now c.other.view_is)
