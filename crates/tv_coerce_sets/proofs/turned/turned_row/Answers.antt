use Rattle.std.proofs.Common.{◌∙◌, ◌-◌, ◌*◌, [], ◌∷◌, ap, arith, min}
use Rattle.tv_structure_form.specs.StructureForm.{value_at}
use Rattle.tv_coerce_sets.proofs.Turning.{next-told, turned-unary}
use Rattle.tv_coerce_sets.proofs.turned.turned_row.Goals as goal

pub loop-chunk-preserved : goal.loop-chunk-preserved
loop-chunk-preserved c =
    next-told c.args.s.now.size c.loop-chunk.chunk c.places-n.result (λ u. value_at c.args.s.now c.args.p.0 (u ∷ []))
    (λ u. value_at c.args.t.now c.args.p.0 (u ∷ [])) c.unary_word.result c.unary_word-in-loop-chunk.result
    c.loop-chunk.turned c.with_word-turned.result c.with_word-turned.result
    (c.places-n.ensures.value ∙ ap (λ m. min 64 (m - 64 * c.loop-chunk.chunk)) c.size-in-loop-chunk.ensures.size)
    c.unary_word.ensures.values
    (λ i lt within. c.unary_word-in-loop-chunk.ensures.values i lt (omega (arith, within, c.requires.size)))
    c.with_word-turned.ensures.here c.with_word-turned.ensures.there (λ x y told. told) c.loop-chunk.invariant

pub returns : goal.returns
returns c =
    turned-unary c.loop-chunk.turned c.args.s.now c.args.t.now c.args.p.0 c.requires.over c.requires.one
    (λ u lt. c.loop-chunk.invariant u
    (omega (arith, lt, c.loop-chunk-test.false, c.div_ceil-chunk-end.ensures, c.size.ensures.size)) lt)
