-- By bits.
use Rattle.std.proofs.Common.{ap, ◌∙◌}
use Rattle.tv_kleene.specs.Kleene.{larger_of, smaller_of}
use Rattle.tv_row.specs.Bits.{paired, yes_unless_no}
use Rattle.tv_coerce.proofs.Counts.{words-by-bits}
use Rattle.tv_coerce.proofs.places.counted.Goals as goal

pub returns : goal.returns
returns c =
    c.and.ensures ∙ ap (λ w. paired smaller_of w c.and-both.result) c.unless_no.ensures
    ∙ ap (λ w. paired smaller_of (paired yes_unless_no w c.and-both.result) c.and-both.result) c.or.ensures
    ∙ ap (λ w. paired smaller_of (paired yes_unless_no (paired larger_of c.args.word c.args.values) w) w) c.and-both.ensures
    ∙ words-by-bits c.args.word c.args.values
