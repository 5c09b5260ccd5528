-- The predicate's answer and the definition's are one.
use Rattle.std.proofs.Common.{ℕ, ◌≡◌, ◌↔◌, ◌∙◌, List, IsTrue, ap, subst}
use Rattle.tv_model.specs.Form.{form_of, vars_of}
use Rattle.tv_model.specs.Heap.{Holds}
use Rattle.tv_model.specs.Rules.{blank}
use Rattle.tv_model.specs.Truth.{Assignment, Truth, put_all}
use Rattle.tv_concrete.specs.Lists.{heap_of, assignment_of}
use Rattle.tv_concrete.proofs.Every.{same-answer}
use Rattle.tv_concrete.proofs.shape.is_as_defined_at.Goals as goal

pub returns-in-Defined : goal.returns-in-Defined
returns-in-Defined c =
    let vars : List ℕ = vars_of c.in-Defined.vars
    in let Held : List ℕ → Type 0 = λ us. IsTrue c.holds_of.result ↔ Holds (heap_of c.args.heap.now) c.args.q us
    in let Defined : Assignment → Type 0 = λ a. IsTrue c.holds.result
    ↔ Truth (heap_of c.args.heap.now) a (form_of c.in-Defined.body)
    in let values : assignment_of c.put_tuple.result ≡ put_all blank vars c.args.tuple.now =
    c.put_tuple.ensures ∙ ap (λ a. put_all a vars c.as_slice-tuple.result.now) c.blank.ensures
    ∙ ap (λ us. put_all blank vars us) c.as_slice-tuple.ensures
    in rw c.in-Defined.is
    (same-answer (Holds (heap_of c.args.heap.now) c.args.q c.args.tuple.now)
    (Truth (heap_of c.args.heap.now) (put_all blank vars c.args.tuple.now) (form_of c.in-Defined.body))
    c.holds_of.result c.holds.result (subst Held c.as_slice-tuple.ensures c.holds_of.ensures)
    (subst Defined values c.holds.ensures))
