use Rattle.std.proofs.Common.{◌≡◌, ◌+◌, ◌/◌, ◌%◌, ◌∙◌, [], cond, ltb, length, get_or, set, ap, sym, arith}
use Rattle.std.proofs.Common.{⊎_elim}
use Rattle.std.proofs.lemmas.Bool.{cases_lt, le-ltb}
use Rattle.std.proofs.lemmas.List.{get_or-set_same, get_or-set_other, length-set}
use Rattle.tv_kleene.specs.declared.K3.TheVariants.{No}
use Rattle.tv_row.specs.Packed.{PackedForm}
use Rattle.tv_row.specs.Places.{word_at, value_in}
use Rattle.tv_row.proofs.DrawnRuns.{drawn_next}
use Rattle.tv_row.proofs.WordOps.{length-padded, get_or-padded}
use Rattle.tv_row.proofs.packed.PackedWords.extend.Goals as goal

pub first-word-requires : goal.first-word-requires
first-word-requires c = omega (arith, c.requires.columns, c.len-2.ensures.cells)

pub put_word-requires-clause-long : goal.put_word-requires-clause-long
put_word-requires-clause-long c =
    ap length c.first-word.ensures
    ∙ length-padded c.args.columns c.front.result (omega (arith, c.requires.columns, c.len-2.ensures.cells)) c.front.ensures.long

pub put_word-requires-clause-unused : goal.put_word-requires-clause-unused
put_word-requires-clause-unused c = λ i past low.
    ap (λ word. get_or word i No) c.first-word.ensures
    ∙ get_or-padded c.args.columns c.front.result i (omega (arith, c.requires.columns, c.len-2.ensures.cells)) c.front.ensures.long low
    ∙ ap (λ b. cond b (get_or c.front.result i No) No) (le-ltb i c.args.columns (omega (arith, past, c.requires.room)))

pub returns-clause-values : goal.returns-clause-values
returns-clause-values c = λ i low.
    let at : c.args.place + i / 64 ≡ c.args.place = omega arith
    in let first : i % 64 ≡ i = omega arith
    in ap (λ (f : PackedForm). value_in f.words c.args.place i) c.put_word.ensures
    ∙ ap (λ p. get_or (word_at (set c.args.self.now.words c.args.place c.first-word.result) p) (i % 64) No) at
    ∙ ap (λ word. get_or word (i % 64) No) (get_or-set_same c.args.self.now.words c.args.place c.first-word.result [] c.requires.place)
    ∙ ap (λ n. get_or c.first-word.result n No) first
    ∙ ap (λ word. get_or word i No) c.first-word.ensures
    ∙ get_or-padded c.args.columns c.front.result i (omega (arith, c.requires.columns, c.len-2.ensures.cells)) c.front.ensures.long low
    ∙ ⊎_elim
    (λ lt.
    let there : c.args.from ≡ c.args.from + i / 64 = omega (arith, low)
    in let place : i ≡ i % 64 = omega (arith, low)
    in ap (λ k. cond (ltb i c.args.columns) k No)
    (c.front.ensures.values i (omega (arith, lt, c.requires.columns))
    ∙ ap (λ p. get_or (word_at c.args.source.now.words p) i No) there
    ∙ ap (λ n. get_or (word_at c.args.source.now.words (c.args.from + i / 64)) n No) place))
    (λ le.
    ap (λ b. cond b (get_or c.front.result i No) No) (le-ltb i c.args.columns le)
    ∙ sym (ap (λ b. cond b (value_in c.args.source.now.words c.args.from i) No) (le-ltb i c.args.columns le)))
    (cases_lt i c.args.columns)
    ∙ drawn_next (value_in c.args.source.now.words c.args.from) c.args.columns i

pub returns-clause-others : goal.returns-clause-others
returns-clause-others c = λ p ne.
    ap (λ (f : PackedForm). word_at f.words p) c.put_word.ensures
    ∙ get_or-set_other c.args.self.now.words c.args.place p c.first-word.result [] ne

pub returns-clause-length : goal.returns-clause-length
returns-clause-length c =
    ap (λ (f : PackedForm). length f.words) c.put_word.ensures ∙ length-set c.args.self.now.words c.args.place c.first-word.result
