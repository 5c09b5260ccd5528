use Rattle.std.proofs.Common.{ap, length, ◌∙◌, [], get_or, arith}
use Rattle.std.proofs.lemmas.List.{get_or_default}
use Rattle.tv_kleene.specs.declared.K3.TheVariants.{No}
use Rattle.tv_row.proofs.Chunks.{word-seen}
use Rattle.tv_row.proofs.row.Row.whole_word.Goals as goal

pub returns-clause-values : goal.returns-clause-values
returns-clause-values c = λ i lt.
    ap (λ w. get_or w i No)
    (get_or_default c.self.inside.words c.args.chunk c.index-self-chunk.result [] (omega (arith, c.self.told, c.requires)))
    ∙ word-seen c.self.inside.words c.self.inside.size c.args.chunk i c.args.self.now c.self.invariant c.self.view_is
    c.requires lt

pub returns-clause-long : goal.returns-clause-long
returns-clause-long c =
    ap length (get_or_default c.self.inside.words c.args.chunk c.index-self-chunk.result [] (omega (arith, c.self.told, c.requires)))
    ∙ c.self.invariant.words_have c.args.chunk [] (omega (arith, c.self.told, c.requires))
