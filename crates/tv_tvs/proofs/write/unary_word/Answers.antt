use Rattle.std.proofs.Common.{◌<◌, ◌+◌, ◌*◌, ◌∙◌, sym, arith}
use Rattle.tv_struct.specs.StructureRows.{unary_row}
use Rattle.tv_tvs.proofs.PredLines.{singles_length, single_value}
use Rattle.tv_tvs.proofs.RowTexts.{word_cut}
use Rattle.tv_tvs.proofs.write.unary_word.Goals as goal

pub returns : goal.returns
returns c =
    word_cut (unary_row c.args.s.now c.args.p.0) c.unary_word.result _ (64 * c.args.chunk) c.min.result c.unary_word.ensures.long
    (omega (arith, c.requires.chunk, singles_length c.args.s.now c.args.p.0)) (omega (arith, c.min.ensures, c.size.ensures.size, singles_length c.args.s.now c.args.p.0))
    c.first.ensures
    (λ i low within. let inside : 64 * c.args.chunk + i < c.args.s.now.size = omega (arith, within, singles_length c.args.s.now c.args.p.0)
    in c.unary_word.ensures.values i low inside ∙ sym (single_value c.args.s.now c.args.p.0 (64 * c.args.chunk + i) inside))
