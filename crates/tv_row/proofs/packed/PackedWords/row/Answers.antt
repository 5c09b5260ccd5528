use Rattle.std.proofs.Common.{◌≡◌, ◌+◌, ◌/◌, ◌%◌, ◌∙◌, get_or, ap, sym, arith}
use Rattle.tv_kleene.specs.declared.K3.TheVariants.{No}
use Rattle.std.proofs.lemmas.List.{nil_from_length}
use Rattle.tv_row.specs.Places.{word_at, row_of}
use Rattle.tv_row.proofs.PackedLaws.{alone_row}
use Rattle.tv_row.proofs.PlaceLaws.{length-row_of}
use Rattle.tv_row.proofs.packed.PackedWords.row.Goals as goal

pub alone-requires-clause-unused : goal.alone-requires-clause-unused
alone-requires-clause-unused c = λ i past low.
    let words = c.args.self.now.words
    in let there : c.args.start ≡ c.args.start + i / 64 = omega arith
    in let same : i ≡ i % 64 = omega arith
    in ap (λ w. get_or w i No) c.word.ensures.value ∙ ap (λ p. get_or (word_at words p) i No) there
    ∙ ap (λ j. get_or (word_at words (c.args.start + i / 64)) j No) same
    ∙ c.requires.unused i past (omega (arith, low, c.if-size-eq0.false, c.if-size-le64.true))

pub returns-then-size-le64 : goal.returns-then-size-le64
returns-then-size-le64 c =
    c.alone.ensures
    ∙ alone_row c.args.self.now.words c.word.result c.args.size c.args.start (omega (arith, c.if-size-le64.true)) c.word.ensures.value

pub returns-then-size-eq0 : goal.returns-then-size-eq0
returns-then-size-eq0 c =
    c.of.ensures
    ∙ sym (nil_from_length (row_of c.args.self.now.words c.args.size c.args.start)
    (length-row_of c.args.self.now.words c.args.size c.args.start ∙ c.if-size-eq0.true))
