-- The predicate's answer and the update's are one.
use Rattle.std.proofs.Common.{ℕ, ◌≡◌, ◌↔◌, ◌∙◌, List, IsTrue, ap, subst}
use Rattle.tv_model.specs.Form.{form_of, vars_of}
use Rattle.tv_model.specs.Heap.{Heap, Holds}
use Rattle.tv_model.specs.Truth.{Assignment, Truth, put_all}
use Rattle.tv_concrete.specs.Lists.{heap_of, assignment_of}
use Rattle.tv_concrete.proofs.Every.{same-answer}
use Rattle.tv_concrete.proofs.step.allows_change.Goals as goal

pub returns-in-To : goal.returns-in-To
returns-in-To c =
    let middle : Heap = heap_of c.args.step.now.middle.now
    in let Held : List ℕ → Type 0 = λ us. IsTrue c.holds_of.result ↔ Holds (heap_of c.args.step.now.new.now) c.args.q us
    in let Changed : Assignment → Type 0 = λ a. IsTrue c.holds.result ↔ Truth middle a (form_of c.in-To.f)
    in let put : List ℕ → Assignment = λ us. put_all (assignment_of c.args.step.now.picked)
    (vars_of c.args.update.now.vars) us
    in let values : assignment_of c.put_tuple-values.result ≡ put c.args.tuple.now =
    c.put_tuple-values.ensures ∙ ap put c.as_slice-tuple.ensures
    in rw c.in-To.is
    (same-answer (Holds (heap_of c.args.step.now.new.now) c.args.q c.args.tuple.now)
    (Truth middle (put c.args.tuple.now) (form_of c.in-To.f))
    c.holds_of.result c.holds.result (subst Held c.as_slice-tuple.ensures c.holds_of.ensures)
    (subst Changed values c.holds.ensures))
