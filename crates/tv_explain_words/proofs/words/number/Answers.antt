use Rattle.std.proofs.Common.{◌≡◌, ◌∙◌, ℕ, sym, ap, arith, true≢false}
use Rattle.std.specs.Prelude.{Result, Ok, decimal}
use Rattle.std.specs.Str.Parse.{ParsesUnsigned}
use Rattle.std.proofs.lemmas.Fmt.{parse-decimal}
use Rattle.std.proofs.lemmas.Slice.Eq.{bytes_eq-Decides}
use Rattle.tv_explain_words.specs.Words.{IsNumber}
use Rattle.tv_explain_words.proofs.words.number.Goals as goal

-- a number's text is parsed as that number
read_back : {E : Type 0} (n : ℕ) (word : _) (r : Result ℕ E) → IsNumber word n → ParsesUnsigned 32 10 word r
    → r ≡ Ok n
read_back n word r is parsed = parse-decimal 32 n word r is.1 (omega (arith, is.1)) is.0 parsed

pub returns-in_default-clause-none : goal.returns-in_default-clause-none
returns-in_default-clause-none c = λ n is.
    let good = read_back n c.args.word.now c.parse.result is c.parse.ensures.value.0 in
    absurd (cc (c.in_default.is))

pub returns-else-eq-clause-none : goal.returns-else-eq-clause-none
returns-else-eq-clause-none c = λ n is.
    let good = read_back n c.args.word.now c.parse.result is c.parse.ensures.value.0 in
    let same : n ≡ c.in-Ok.number = cc in
    let text : c.format.result.now ≡ c.args.word.now = c.format.ensures.text ∙ ap decimal (sym same)
    ∙ sym is.0 in
    absurd (true≢false (sym ((bytes_eq-Decides _ _).1 text) ∙ sym c.eq.ensures ∙ c.if-eq.false))
