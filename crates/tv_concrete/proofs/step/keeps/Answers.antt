-- The retain formula, with the individual put for its variable.
use Rattle.std.proofs.Common.{◌↔◌, IsTrue, subst}
use Rattle.tv_model.specs.Form.{form_of}
use Rattle.tv_model.specs.Truth.{Assignment, Truth}
use Rattle.tv_concrete.specs.Lists.{heap_of}
use Rattle.tv_concrete.proofs.step.keeps.Goals as goal

pub returns-in-Some : goal.returns-in-Some
returns-in-Some c =
    let P : Assignment → Type 0 = λ a. IsTrue c.holds.result
    ↔ Truth (heap_of c.args.step.now.middle.now) a (form_of c.in-Some.retain.keep)
    in rw c.in-Some.is (subst P c.with.ensures c.holds.ensures)
