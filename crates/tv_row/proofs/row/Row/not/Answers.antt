use Rattle.std.proofs.Common.{◌∙◌, ◌-◌, ◌*◌, min, map, ap, arith, []}
use Rattle.std.proofs.lemmas.List.{get_or_default}
use Rattle.tv_kleene.specs.Kleene.{negation_of}
use Rattle.tv_row.specs.Bits.{padded}
use Rattle.tv_row.specs.Places.{word_at}
use Rattle.tv_row.proofs.RowOps.{FilledTo, alone_filled, negated_hold, negated_row}
use Rattle.tv_row.proofs.row.Row.not.Goals as goal

filled : (c : goal.After-alone)
    → FilledTo c.alone.result 1 (λ p. padded (min 64 (c.self.inside.size - 64 * p)) (map negation_of (word_at c.self.inside.words p)))
filled c =
    alone_filled c.alone.result
    (λ p. padded (min 64 (c.self.inside.size - 64 * p)) (map negation_of (word_at c.self.inside.words p))) c.not.result
    c.alone.ensures
    (c.not.ensures
    ∙ ap (λ word. padded c.self.inside.size (map negation_of word))
    (get_or_default c.self.inside.words 0 c.index-self-0.result [] (omega (arith, c.self.invariant.as_many)))
    ∙ ap (λ n. padded n (map negation_of (word_at c.self.inside.words 0))) (omega (arith, c.if-self-le64.true)))

pub invariant_of-result : goal.invariant_of-result
invariant_of-result c =
    negated_hold c.self.inside.words c.alone.result c.self.inside.size 1 c.self.invariant (omega (arith, c.if-self-le64.true))
    (omega arith) (filled c)

pub returns-then-self-le64 : goal.returns-then-self-le64
returns-then-self-le64 c =
    negated_row c.self.inside.words c.alone.result c.self.inside.size 1 c.self.invariant (omega (arith, c.if-self-le64.true))
    (omega arith) (filled c)
    ∙ ap (map negation_of) c.self.view_is
