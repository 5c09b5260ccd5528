use Rattle.std.proofs.Common.{◌≡◌, ◌∙◌, ap, sym, subst, length, arith}
use Rattle.std.proofs.lemmas.List.{length-replicate}
use Rattle.std.proofs.lemmas.List.Elements.{All-replicate}
use Rattle.tv_row.specs.Places.{row_of}
use Rattle.tv_row.specs.RowForm.{HoldsRow}
use Rattle.tv_row.proofs.RowOps.{no_word, length_seen}
use Rattle.tv_row.proofs.DrawnRuns.{drawn_holds, drawn_row}
use Rattle.tv_row.proofs.row.Row.drawn.Goals as goal

pub draw-requires-clause-room : goal.draw-requires-clause-room
draw-requires-clause-room c = omega (arith, c.origins.ensures.small)

pub draw-requires-clause-source : goal.draw-requires-clause-source
draw-requires-clause-source c =
    λ column lt. omega (arith, lt, c.requires, c.self.invariant.small, c.self.invariant.as_many, length_seen _ _ _ c.self.view_is)

pub invariant_of-result : goal.invariant_of-result
invariant_of-result c =
    subst (HoldsRow c.draw.new.words) (sym (ap length c.origins.ensures.value))
    (drawn_holds c.draw.new.words c.self.inside.words c.args.drawing.now c.args.self.now c.self.inside.size c.self.view_is c.requires
    c.origins.ensures.small
    (c.draw.ensures.long (All-replicate (λ word. length word ≡ 64) 4 c.of-words.result (ap length c.of-words.ensures ∙ no_word)))
    (c.draw.ensures.length ∙ length-replicate 4 c.of-words.result) c.draw.ensures.values)

pub returns : goal.returns
returns c =
    ap (λ n. row_of c.draw.new.words n 0) (ap length c.origins.ensures.value)
    ∙ drawn_row c.draw.new.words c.self.inside.words c.args.drawing.now c.args.self.now c.self.inside.size c.self.view_is c.requires
    c.origins.ensures.small
    (c.draw.ensures.long (All-replicate (λ word. length word ≡ 64) 4 c.of-words.result (ap length c.of-words.ensures ∙ no_word)))
    (c.draw.ensures.length ∙ length-replicate 4 c.of-words.result) c.draw.ensures.values
