use Rattle.std.proofs.Common.{◌∙◌, ◌+◌, ◌*◌, ap, refl, arith, []}
use Rattle.std.proofs.lemmas.List.{get_or_read}
use Rattle.tv_kleene.specs.Kleene.{larger_of}
use Rattle.tv_row.specs.Bits.{greatest_in}
use Rattle.tv_row.specs.Places.{row_of}
use Rattle.tv_row.proofs.Greatest.{greatest_more}
use Rattle.tv_row.proofs.slices.greatest.Goals as goal

pub loop-w-init : goal.loop-w-init
unfolding row_of
loop-w-init c = refl

pub loop-w-preserved : goal.loop-w-preserved
loop-w-preserved c =
    c.or-k.ensures ∙ ap (λ k. larger_of k c.greatest.result) c.loop-w.invariant
    ∙ ap (larger_of (greatest_in (row_of c.args.words.now (64 * c.loop-w.w) c.args.start)))
    (c.greatest.ensures ∙ ap greatest_in (get_or_read c.args.words.now (c.args.start + c.loop-w.w) c.index-words-start.result (omega (arith, c.requires.row)) c.index-words-start.is []))
    ∙ greatest_more c.args.words.now c.args.start c.loop-w.w c.requires.words (omega (arith, c.requires.row))
