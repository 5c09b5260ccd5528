use Rattle.std.proofs.Common.{◌<◌, ◌+◌, ◌*◌, ◌∙◌, sym, arith}
use Rattle.tv_struct.specs.StructureRows.{row_at}
use Rattle.tv_tvs.proofs.PredLines.{row_length, pair_value}
use Rattle.tv_tvs.proofs.RowTexts.{word_cut}
use Rattle.tv_tvs.proofs.write.pair_word.Goals as goal

pub returns : goal.returns
returns c =
    word_cut (row_at c.args.s.now c.args.p.0 c.args.u) c.word.result _ (64 * c.args.chunk) c.min.result c.word.ensures.long
    (omega (arith, c.requires.chunk, row_length c.args.s.now c.args.p.0 c.args.u)) (omega (arith, c.min.ensures, c.size.ensures.size, row_length c.args.s.now c.args.p.0 c.args.u))
    c.first.ensures
    (λ i low within. let inside : 64 * c.args.chunk + i < c.args.s.now.size = omega (arith, within, row_length c.args.s.now c.args.p.0 c.args.u)
    in c.word.ensures.values i low inside ∙ sym (pair_value c.args.s.now c.args.p.0 c.args.u (64 * c.args.chunk + i) inside))
