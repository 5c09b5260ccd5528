use Rattle.std.proofs.Common.{◌≤◌, List, length, subst}
use Rattle.std.proofs.lemmas.List.Sorted.{Contains-permutation, IsNonDecreasingBy-from_sort}
use Rattle.tv_kleene.specs.declared.K3.{K3}
use Rattle.tv_cover.proofs.NotedLaws.{looked-none, looked-more, looked-all, row-at}
use Rattle.tv_cover.proofs.noted.Noted.places.Goals as goal

pub loop-known-init : goal.loop-known-init
loop-known-init c = looked-none c.args.self.now c.args.glance.now c.new-found.result.items

pub loop-known-preserved : goal.loop-known-preserved
loop-known-preserved c =
    looked-more c.args.self.now c.args.glance.now c.loop-known.known-index c.known-item.result c.loop-known.found.items
    c.add_if_known.new.found.items
    (row-at c.as_slice-known-items.result.now c.args.self.now.known.items c.loop-known.known-index c.known-item.result
    c.known-item.is c.as_slice-known-items.ensures.value c.loop-known-test.true)
    c.in_ok-add_if_known.ensures.kept c.in_ok-add_if_known.ensures.added c.loop-known.invariant

pub returns-clause-each : goal.returns-clause-each
returns-clause-each c = λ known within are noting has may.
    let All-rows : List (List K3) → Type 0 = λ rows. length rows ≤ c.loop-known.known-index
    in Contains-permutation c.loop-known.found.items c.sort_unstable.new.self.items noting.place c.sort_unstable.ensures.permutation
    (looked-all c.args.self.now c.args.glance.now c.loop-known.known-index c.loop-known.found.items
    (subst All-rows c.as_slice-known-items.ensures.value c.loop-known-test.false) c.loop-known.invariant
    known within are noting has may)

pub returns-clause-order : goal.returns-clause-order
returns-clause-order c = IsNonDecreasingBy-from_sort (λ x. x) c.sort_unstable.new.self.items c.sort_unstable.ensures.sorted
