use Rattle.std.proofs.Common.{◌∙◌, ap}
use Rattle.tv_kleene.specs.Kleene.{negation_of}
use Rattle.tv_row.specs.Bits.{greatest_in}
use Rattle.tv_row.proofs.Greatest.{least_first}
use Rattle.tv_row.proofs.word.Word.least.Goals as goal

pub returns : goal.returns
returns c =
    c.not-2.ensures ∙ ap negation_of (c.greatest.ensures ∙ ap greatest_in c.not.ensures) ∙ least_first c.args.n c.args.self
