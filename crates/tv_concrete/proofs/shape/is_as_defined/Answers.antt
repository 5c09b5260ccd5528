-- What holds of the enumerated tuples holds of all.
use Rattle.std.proofs.Common.{ℕ, ◌≡◌, ◌∙◌, List, ap, true, false}
use Rattle.tv_model.specs.Program.{kind_of}
use Rattle.tv_model.specs.Rules.{MeetsDefinition}
use Rattle.tv_concrete.specs.Lists.{heap_of}
use Rattle.tv_concrete.specs.Tuples.{tuples_of}
use Rattle.tv_concrete.proofs.Every.{every-false, every-true}
use Rattle.tv_concrete.proofs.TupleLists.{tuples-answer}
use Rattle.tv_concrete.proofs.shape.is_as_defined.Goals as goal

-- what is gone through is what was enumerated
listed : (arity : ℕ) {us vs : List ℕ} {all seen : List (List ℕ)} → us ≡ vs → all ≡ tuples_of us arity → seen ≡ all
    → seen ≡ tuples_of vs arity
listed arity same is are = are ∙ is ∙ ap (λ xs. tuples_of xs arity) same

pub returns-then-not-is_as_defined_at : goal.returns-then-not-is_as_defined_at
returns-then-not-is_as_defined_at c =
    let P : List ℕ → Type 0 = MeetsDefinition (heap_of c.args.heap.now) c.args.q (kind_of c.args.pred.now.kind)
    in let is = listed c.args.pred.now.arity c.as_slice.ensures c.in_ok-all.ensures c.as_slice-tuple-items.ensures
    in tuples-answer P c.args.heap.now.individuals c.args.pred.now.arity _ false is
    (every-false P _ c.loop-tuple.tuple-index c.tuple-item.result c.loop-tuple-test.true c.tuple-item.is c.if-not-is_as_defined_at.ensures)

pub returns : goal.returns
returns c =
    let P : List ℕ → Type 0 = MeetsDefinition (heap_of c.args.heap.now) c.args.q (kind_of c.args.pred.now.kind)
    in let is = listed c.args.pred.now.arity c.as_slice.ensures c.in_ok-all.ensures c.as_slice-tuple-items.ensures
    in tuples-answer P c.args.heap.now.individuals c.args.pred.now.arity _ true is
    (every-true P _ c.loop-tuple.tuple-index c.loop-tuple-test.false c.loop-tuple.invariant)
