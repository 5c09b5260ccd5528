use Rattle.std.proofs.Common.{◌*◌, arith}
use Rattle.tv_tvs.proofs.RowTexts.{word_cut}
use Rattle.tv_tvs.proofs.write.word_of.Goals as goal

pub returns : goal.returns
returns c =
    word_cut c.args.values.now c.word.result _ (64 * c.args.chunk) c.min.result c.word.ensures.long
    (omega (arith, c.requires)) (omega (arith, c.min.ensures, c.size.ensures.size))
    c.first.ensures
    c.word.ensures.values
