use Rattle.std.proofs.Common.{◌≡◌, ◌+◌, ◌/◌, ◌%◌, ◌∙◌, [], length, get_or, set, ap, arith}
use Rattle.std.proofs.lemmas.List.{get_or-set_same, get_or-set_other, length-set}
use Rattle.tv_kleene.specs.declared.K3.TheVariants.{No}
use Rattle.tv_row.specs.Packed.{PackedForm}
use Rattle.tv_row.specs.Places.{word_at, value_in}
use Rattle.tv_row.proofs.DrawnRuns.{drawn_end, drawn_same}
use Rattle.tv_row.proofs.packed.PackedWords.draw.Goals as goal

pub drawn-word-requires-clause-room : goal.drawn-word-requires-clause-room
drawn-word-requires-clause-room c = omega (arith, c.requires.room, c.len.ensures.cells)

pub drawn-word-requires-clause-columns : goal.drawn-word-requires-clause-columns
drawn-word-requires-clause-columns c = omega (arith, c.requires.columns, c.len-2.ensures.cells)

pub put_word-requires-clause-unused : goal.put_word-requires-clause-unused
put_word-requires-clause-unused c = λ i past low.
    c.drawn-word.ensures.values i low
    ∙ drawn_end (λ n. get_or c.front.result n No) c.args.drawing.now i (omega (arith, past, c.requires.room))

pub returns-clause-values : goal.returns-clause-values
returns-clause-values c = λ i low.
    let at : c.args.place + i / 64 ≡ c.args.place = omega arith
    in let first : i % 64 ≡ i = omega arith
    in ap (λ (f : PackedForm). value_in f.words c.args.place i) c.put_word.ensures
    ∙ ap (λ p. get_or (word_at (set c.args.self.now.words c.args.place c.drawn-word.result) p) (i % 64) No) at
    ∙ ap (λ word. get_or word (i % 64) No) (get_or-set_same c.args.self.now.words c.args.place c.drawn-word.result [] c.requires.place)
    ∙ ap (λ n. get_or c.drawn-word.result n No) first ∙ c.drawn-word.ensures.values i low
    ∙ drawn_same (λ n. get_or c.front.result n No) (value_in c.args.source.now.words c.args.from) c.args.drawing.now i
    (λ o lt.
    let there : c.args.from ≡ c.args.from + o / 64 = omega (arith, lt, c.requires.columns, c.len-2.ensures.cells)
    in let place : o ≡ o % 64 = omega (arith, lt, c.requires.columns, c.len-2.ensures.cells)
    in c.front.ensures.values o (omega (arith, lt, c.requires.columns))
    ∙ ap (λ p. get_or (word_at c.args.source.now.words p) o No) there
    ∙ ap (λ n. get_or (word_at c.args.source.now.words (c.args.from + o / 64)) n No) place)

pub returns-clause-others : goal.returns-clause-others
returns-clause-others c = λ p ne.
    ap (λ (f : PackedForm). word_at f.words p) c.put_word.ensures
    ∙ get_or-set_other c.args.self.now.words c.args.place p c.drawn-word.result [] ne

pub returns-clause-length : goal.returns-clause-length
returns-clause-length c =
    ap (λ (f : PackedForm). length f.words) c.put_word.ensures ∙ length-set c.args.self.now.words c.args.place c.drawn-word.result
