use Rattle.std.proofs.Common.{◌∙◌, ◌-◌, ◌*◌, min, take, ap, refl, arith, []}
use Rattle.std.proofs.lemmas.List.{get_or_default, map-id}
use Rattle.tv_row.specs.Bits.{padded}
use Rattle.tv_row.specs.Places.{word_at}
use Rattle.tv_row.proofs.RowOps.{FilledTo, alone_filled, front_holds, front_row}
use Rattle.tv_row.proofs.row.Row.first.Goals as goal

filled : (c : goal.After-alone) → FilledTo c.alone.result 1 (λ p. padded (min 64 (c.args.size - 64 * p)) (word_at c.self.inside.words p))
filled c =
    alone_filled c.alone.result (λ p. padded (min 64 (c.args.size - 64 * p)) (word_at c.self.inside.words p)) c.first.result
    c.alone.ensures
    (c.first.ensures
    ∙ ap (padded c.args.size) (get_or_default c.self.inside.words 0 c.index-self-0.result [] (omega (arith, c.self.invariant.as_many)))
    ∙ ap (λ n. padded n (word_at c.self.inside.words 0)) (omega (arith, c.if-size-le64.true)))

pub invariant_of-result : goal.invariant_of-result
invariant_of-result c =
    front_holds c.self.inside.words c.alone.result c.self.inside.size c.args.size 1 c.args.self.now (λ k. k) c.self.invariant
    c.self.view_is c.requires (omega (arith, c.if-size-le64.true)) (omega arith) (λ word. word) (λ word e. e)
    (λ word i e low. refl) (filled c)

pub returns-then-size-le64 : goal.returns-then-size-le64
returns-then-size-le64 c =
    front_row c.self.inside.words c.alone.result c.self.inside.size c.args.size 1 c.args.self.now (λ k. k) c.self.invariant
    c.self.view_is c.requires (omega (arith, c.if-size-le64.true)) (omega arith) (λ word. word) (λ word e. e)
    (λ word i e low. refl) (filled c)
    ∙ map-id (take c.args.size c.args.self.now)
