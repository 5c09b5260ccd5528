use Rattle.std.proofs.Common.{◌++◌, ◌*◌, ◌∙◌, [], ap, arith}
use Rattle.tv_tvs.specs.Rows.{word_text}
use Rattle.tv_tvs.proofs.RowTexts.{word_behind, row_whole}
use Rattle.tv_tvs.proofs.write.put_row.Goals as goal

pub loop-chunk-preserved : goal.loop-chunk-preserved
loop-chunk-preserved c =
    word_behind [] c.args.values.now c.word_of-word.result c.loop-chunk.chunk c.args.out.now c.loop-chunk.out
    _ c.word_of-word.ensures c.loop-chunk.invariant
    (c.in_ok-put_word.ensures ∙ ap (λ p. c.loop-chunk.out ++ word_text p (64 * c.loop-chunk.chunk) c.word_of-word.result) c.of.ensures)

pub returns : goal.returns
returns c =
    row_whole [] c.args.values.now (64 * c.loop-chunk.chunk) c.args.out.now c.loop-chunk.out
    (omega (arith, c.loop-chunk-test.false, c.loop-chunk.auto.chunk-end, c.div_ceil-chunk-end.ensures, c.size.ensures.size)) c.loop-chunk.invariant
