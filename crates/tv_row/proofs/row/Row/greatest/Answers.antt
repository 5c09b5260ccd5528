use Rattle.std.proofs.Common.{◌∙◌, ap, sym, arith, []}
use Rattle.std.proofs.lemmas.List.{get_or_default}
use Rattle.tv_row.specs.Bits.{greatest_in}
use Rattle.tv_row.proofs.RowOps.{first_word, greatest_held}
use Rattle.tv_row.proofs.row.Row.greatest.Goals as goal

pub returns-then-self-le64 : goal.returns-then-self-le64
returns-then-self-le64 c =
    c.greatest.ensures
    ∙ ap greatest_in ((get_or_default c.self.inside.words 0 c.index-self-0.result []
    (omega (arith, c.self.invariant.as_many))) ∙ sym (first_word c.self.inside.words
    c.self.invariant.words_have c.self.invariant.as_many))
    ∙ greatest_held c.self.inside.words c.self.inside.size 1 c.self.invariant
    (omega (arith, c.if-self-le64.true)) (omega arith)
    ∙ ap greatest_in c.self.view_is

pub returns : goal.returns
returns c =
    c.greatest-2.ensures
    ∙ greatest_held c.self.inside.words c.self.inside.size c.div_ceil.result c.self.invariant
    (omega (arith, c.div_ceil.ensures))
    (omega (arith, c.div_ceil.ensures, c.self.invariant.small))
    ∙ ap greatest_in c.self.view_is
