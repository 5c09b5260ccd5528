use Rattle.std.proofs.Common.{◌++◌, ◌*◌, ◌∙◌, ap, arith}
use Rattle.tv_struct.specs.StructureRows.{row_at}
use Rattle.tv_tvs.specs.Rows.{word_text, pair_prefix}
use Rattle.tv_tvs.proofs.PredLines.{row_length}
use Rattle.tv_tvs.proofs.RowTexts.{word_behind, row_whole}
use Rattle.tv_tvs.proofs.write.put_pairs.Goals as goal

pub loop-chunk-preserved : goal.loop-chunk-preserved
loop-chunk-preserved c =
    word_behind (pair_prefix c.args.u) (row_at c.args.s.now c.args.p.0 c.args.u) c.pair_word-word.result c.loop-chunk.chunk c.args.out.now c.loop-chunk.out
    _ c.pair_word-word.ensures c.loop-chunk.invariant
    (c.in_ok-put_word.ensures ∙ ap (λ p. c.loop-chunk.out ++ word_text p (64 * c.loop-chunk.chunk) c.pair_word-word.result) c.first.ensures)

pub returns : goal.returns
returns c =
    row_whole (pair_prefix c.args.u) (row_at c.args.s.now c.args.p.0 c.args.u) (64 * c.loop-chunk.chunk) c.args.out.now c.loop-chunk.out
    (omega (arith, c.loop-chunk-test.false, c.loop-chunk.auto.chunk-end, c.div_ceil-chunk-end.ensures, c.size.ensures.size, row_length c.args.s.now c.args.p.0 c.args.u)) c.loop-chunk.invariant
