-- By the word, if there is one.
use Rattle.std.proofs.Common.{◌∙◌, sym}
use Rattle.tv_coerce.proofs.Narrowing.{going-shut}
use Rattle.tv_coerce.proofs.narrow.going_on.Goals as goal

pub returns-in-Some : goal.returns-in-Some
returns-in-Some c =
    going-shut c.args.later.now c.args.left c.args.tail c.args.ways c.in-Some.word c.of.result c.counted.result c.counted-in-Some.result
    c.greatest.result c.requires.long (c.requires.words c.in-Some.word (sym c.word_at.ensures ∙ c.in-Some.is))
    (sym c.word_at.ensures ∙ c.in-Some.is) c.greatest.ensures c.of.ensures c.counted.ensures c.counted-in-Some.ensures
