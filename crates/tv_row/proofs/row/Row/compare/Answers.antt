use Rattle.std.proofs.Common.{◌∙◌, ap, arith, get_or, []}
use Rattle.std.proofs.lemmas.List.{get_or_default}
use Rattle.tv_row.specs.Bits.{value_cmp}
use Rattle.tv_row.specs.Places.{word_at}
use Rattle.tv_row.proofs.RowOrder.{rows_compare, first_words_compare}
use Rattle.std.specs.Cmp.Lexicographic.{slice_cmp}
use Rattle.tv_row.proofs.row.Row.compare.Goals as goal

pub returns-then-self-le64 : goal.returns-then-self-le64
returns-then-self-le64 c =
    rw (← c.self.view_is, ← c.other.view_is)
    (c.compare.ensures ∙ ap (λ word. slice_cmp value_cmp word (get_or c.other.inside.words 0
    c.index-other-0.result)) (get_or_default c.self.inside.words 0 c.index-self-0.result []
    (omega (arith, c.self.invariant.as_many)))
    ∙ ap (slice_cmp value_cmp (word_at c.self.inside.words 0)) (get_or_default c.other.inside.words 0
    c.index-other-0.result [] (omega (arith, c.other.invariant.as_many)))
    ∙ first_words_compare c.self.inside.words c.other.inside.words c.self.inside.size c.other.inside.size
    c.self.invariant
    c.other.invariant (rw (← c.self.view_is, ← c.other.view_is) at c.requires)
    (omega (arith, c.if-self-le64.true)))

pub returns : goal.returns
returns c =
    rw (← c.self.view_is, ← c.other.view_is)
    (c.compare-2.ensures
    ∙ rows_compare c.self.inside.words c.other.inside.words c.self.inside.size c.other.inside.size
    c.div_ceil-used.result c.self.invariant
    c.other.invariant (rw (← c.self.view_is, ← c.other.view_is) at c.requires)
    (omega (arith, c.div_ceil-used.ensures))
    (omega (arith, c.div_ceil-used.ensures, c.self.invariant.small)))
