use Rattle.std.proofs.Common.{◌++◌, ◌*◌, ◌∙◌, [], ap, arith}
use Rattle.tv_struct.specs.StructureRows.{unary_row}
use Rattle.tv_tvs.specs.Rows.{word_text}
use Rattle.tv_tvs.proofs.PredLines.{singles_length}
use Rattle.tv_tvs.proofs.RowTexts.{word_behind, row_whole}
use Rattle.tv_tvs.proofs.write.put_unary.Goals as goal

pub loop-chunk-preserved : goal.loop-chunk-preserved
loop-chunk-preserved c =
    word_behind [] (unary_row c.args.s.now c.args.p.0) c.unary_word-word.result c.loop-chunk.chunk c.args.out.now c.loop-chunk.out
    _ c.unary_word-word.ensures c.loop-chunk.invariant
    (c.in_ok-put_word.ensures ∙ ap (λ p. c.loop-chunk.out ++ word_text p (64 * c.loop-chunk.chunk) c.unary_word-word.result) c.of.ensures)

pub returns : goal.returns
returns c =
    row_whole [] (unary_row c.args.s.now c.args.p.0) (64 * c.loop-chunk.chunk) c.args.out.now c.loop-chunk.out
    (omega (arith, c.loop-chunk-test.false, c.loop-chunk.auto.chunk-end, c.div_ceil-chunk-end.ensures, c.size.ensures.size, singles_length c.args.s.now c.args.p.0)) c.loop-chunk.invariant
