use Rattle.std.proofs.Common.{◌≡◌, ◌∙◌, ℕ, List, [], map, get_or, ap, sym, arith}
use Rattle.std.proofs.lemmas.List.{get_or-map, length-map}
use Rattle.std.specs.Cmp.Lexicographic.{slice_cmp}
use Rattle.tv_kleene.specs.declared.K3.{K3}
use Rattle.tv_row.specs.Bits.{value_cmp, values_of}
use Rattle.tv_row.specs.Places.{word_at}
use Rattle.tv_row.specs.RowForm.{HoldsRow, half_word}
use Rattle.tv_row.proofs.RowOrder.{first_words_compare}
use Rattle.tv_row.proofs.half.HalfRow.compare.Goals as goal

half_at : (bits : List ℕ) (size : ℕ) (word : List K3) (d : ℕ) → HoldsRow (map half_word bits) size → word ≡ values_of (get_or bits 0 d) 0
    → word ≡ word_at (map half_word bits) 0
half_at bits size word d holds e =
    e ∙ sym (get_or-map half_word bits 0 d [] (omega (arith, holds.as_many, length-map bits half_word)))

pub returns-then-self-le64 : goal.returns-then-self-le64
returns-then-self-le64 c =
    rw (← c.self.view_is, ← c.other.view_is)
    (c.compare.ensures
    ∙ ap (λ word. slice_cmp value_cmp word c.half-then-self-le64.result) (half_at _ _ _ _ c.self.invariant c.half.ensures)
    ∙ ap (slice_cmp value_cmp (word_at (map half_word c.self.inside.bits) 0)) (half_at _ _ _ _ c.other.invariant c.half-then-self-le64.ensures)
    ∙ first_words_compare (map half_word c.self.inside.bits) (map half_word c.other.inside.bits) c.self.inside.size c.other.inside.size
    c.self.invariant c.other.invariant (rw (← c.self.view_is, ← c.other.view_is) at c.requires)
    (omega (arith, c.if-self-le64.true)))
