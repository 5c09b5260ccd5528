-- What the loops over the individuals found, and the closure by allowed stops.
use Rattle.std.proofs.Common.{ℕ, ◌↔◌, IsTrue, Contains, get_or, List, subst}
use Rattle.std.proofs.lemmas.Bool.{false≢true}
use Rattle.std.proofs.lemmas.List.Elements.{Contains-get_or}
use Rattle.tv_model.specs.Form.{form_of}
use Rattle.tv_model.specs.Truth.{Assignment, Truth}
use Rattle.tv_concrete.specs.Lists.{heap_of, assignment_of}
use Rattle.tv_concrete.proofs.Walks.{Closure-from_reaches}
use Rattle.tv_concrete.proofs.truth.+holds.Goals as goal

pub holds_of_all-returns-then-not-holds_with : goal.holds_of_all-returns-then-not-holds_with
holds_of_all-returns-then-not-holds_with t c =
    let xs : List ℕ = c.as_slice-u-items.result.now
    in let In : List ℕ → Type 0 = λ ys. Contains ys (get_or xs c.loop-u.u-index 0)
    in (
      λ f. absurd (false≢true f),
      λ all. c.if-not-holds_with.ensures.1
          (all (get_or xs c.loop-u.u-index 0)
          (subst In c.as_slice-u-items.ensures (Contains-get_or xs c.loop-u.u-index 0 c.loop-u-test.true))),
    )

pub holds-returns-in-Closure : goal.holds-returns-in-Closure
holds-returns-in-Closure t c =
    rw c.in-Closure.is
    (Closure-from_reaches (heap_of c.args.heap.now) (assignment_of c.args.values) c.in-Closure.from.0 c.in-Closure.to.0
    c.in-Closure.left.0 c.in-Closure.right.0 (form_of c.in-Closure.body.value) c.as_slice-allowed.result.now
    c.at-in-Closure.result c.at-in-Closure-2.result c.reaches.result
    c.as_slice-allowed.ensures c.at-in-Closure.ensures c.at-in-Closure-2.ensures
    (rw (← c.deref-in-Closure.ensures) c.reaches.ensures))

pub holds-returns-in-Forall : goal.holds-returns-in-Forall
holds-returns-in-Forall t c = rw (c.in-Forall.is, ← c.deref-in-Forall.ensures) c.holds_of_all.ensures

pub holds_with-returns : goal.holds_with-returns
holds_with-returns t c =
    let P : Assignment → Type 0 = λ a. IsTrue c.holds.result
    ↔ Truth (heap_of c.args.heap.now) a (form_of c.args.body.now)
    in subst P c.with.ensures c.holds.ensures
