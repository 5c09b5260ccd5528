use Rattle.std.proofs.Common.{◌∙◌, ◌-◌, ◌*◌, [], ◌∷◌, ap, arith, min}
use Rattle.tv_structure_form.specs.StructureForm.{value_at}
use Rattle.tv_coerce_sets.proofs.Turning.{next-told}
use Rattle.tv_coerce_sets.proofs.turned.turned_at.Goals as goal

pub loop-chunk-init : goal.loop-chunk-init
loop-chunk-init c = record {
  here = λ w lt within. absurd (omega (arith, lt));
  there = λ x y told. told;
}

pub loop-chunk-preserved : goal.loop-chunk-preserved
loop-chunk-preserved c = record {
  here = next-told c.args.s.now.size c.loop-chunk.chunk c.places-n.result
      (λ w. value_at c.args.s.now c.args.p.0 (c.args.u ∷ w ∷ [])) (λ w. value_at c.args.t.now c.args.p.0 (c.args.u ∷ w ∷ []))
      c.word.result c.word-in-loop-chunk.result c.loop-chunk.turned c.with_word-turned.result c.with_word-turned.result
      (c.places-n.ensures.value ∙ ap (λ m. min 64 (m - 64 * c.loop-chunk.chunk)) c.size-in-loop-chunk.ensures.size)
      c.word.ensures.values
      (λ i lt within. c.word-in-loop-chunk.ensures.values i lt (omega (arith, within, c.requires.size)))
      c.with_word-turned.ensures.here c.with_word-turned.ensures.there (λ x y told. told) c.loop-chunk.invariant.here;
  there = λ x y told. c.with_word-turned.ensures.there x y (c.loop-chunk.invariant.there x y told);
}

pub returns-clause-here : goal.returns-clause-here
returns-clause-here c = λ w lt. c.loop-chunk.invariant.here w
    (omega (arith, lt, c.loop-chunk-test.false, c.div_ceil-chunk-end.ensures, c.size.ensures.size)) lt
