use Rattle.std.proofs.Common.{◌≡◌, ◌<◌, ◌^◌, ◌∙◌, ℕ, sym, ap, arith, true≢false}
use Rattle.std.specs.Prelude.{Result, Ok, decimal}
use Rattle.std.specs.Str.Parse.{ParsesUnsigned}
use Rattle.std.proofs.lemmas.Fmt.{parse-decimal}
use Rattle.std.proofs.lemmas.Slice.Eq.{bytes_eq-Decides}
use Rattle.tv_words.specs.Words.{IsNumberUpTo}
use Rattle.tv_words.proofs.values.number_up_to.Goals as goal
use Rattle.tv_words.proofs.values.number_up_to.Goals.{else-eq-via-then-eq+then-number-ge1+else-number-most}
use Rattle.tv_words.proofs.values.number_up_to.Goals.{else-eq-via-then-eq+else-number-ge1}
use Rattle.tv_words.proofs.values.number_up_to.Goals.{else-eq-via-else-eq}

-- a number's text is parsed as that number
read_back : {E : Type 0} (most n : ℕ) (word : _) (r : Result ℕ E) → most < 2 ^ 64 → IsNumberUpTo most word n
    → ParsesUnsigned 64 10 word r → r ≡ Ok n
read_back most n word r fits is parsed =
    let small : n < 2 ^ 64 = omega (arith, is.2) in
    parse-decimal 64 n word r small small is.0 parsed

pub returns-in_default-clause-none : goal.returns-in_default-clause-none
returns-in_default-clause-none c = λ n is.
    let good = read_back c.args.most n c.args.word.now c.parse.result c.ranges.most.fits is
    c.parse.ensures.value.0 in
    absurd (cc (c.in_default.is))

pub returns-else-eq-clause-none : goal.returns-else-eq-clause-none
returns-else-eq-clause-none c = λ n is.
    let good = read_back c.args.most n c.args.word.now c.parse.result c.ranges.most.fits is
    c.parse.ensures.value.0 in
    let same : n ≡ c.in-Ok.number = cc in
    let text : c.format.result.now ≡ c.args.word.now = c.format.ensures.text ∙ ap decimal (sym same)
    ∙ sym is.0 in
    elim c.else-eq.branch [
      | else-eq-via-then-eq+then-number-ge1+else-number-most w ↦ absurd (omega (arith, is.2))
      | else-eq-via-then-eq+else-number-ge1 w ↦ absurd (omega (arith, is.1))
      | else-eq-via-else-eq w ↦ absurd (true≢false (sym ((bytes_eq-Decides _ _).1 text) ∙ sym c.eq.ensures
          ∙ w.if-eq.false))
    ]
