use Rattle.std.proofs.Common.{◌∙◌, ap}
use Rattle.tv_row.specs.Bits.{padded}
use Rattle.tv_quantifiers.proofs.Quantifying.{map-turned}
use Rattle.tv_quantifiers.proofs.quantifier.Quantifier.turned_word.Goals as goal

pub returns-in-Exists : goal.returns-in-Exists
returns-in-Exists c = rw c.in-Exists.is (c.first.ensures ∙ ap (padded c.args.count) (map-turned c.args.word))
