use Rattle.std.proofs.Common.{All, List, ℕ, subst}
use Rattle.std.proofs.lemmas.List.{take_all}
use Rattle.tv_heap_steps.specs.Steps.{IsPassed, IsStepBy}
use Rattle.tv_heap_steps.proofs.StepLaws.{steps_next}
use Rattle.tv_heap_steps.proofs.along.steps_by.Goals as goal

pub loop-chosen-preserved : goal.loop-chosen-preserved
loop-chosen-preserved c =
    let walker = c.args.walker.now
    in let s = c.args.s.now
    in let next = steps_next walker c.args.edge s c.loop-chosen.all.items c.push_some.new.all.items
    c.in_ok-found.found c.args.lists.now c.loop-chosen.chosen-index c.chosen-item.result c.loop-chosen-test.true
    c.chosen-item.is c.in_ok-push_some.ensures
    (subst (λ (us : List ℕ). IsStepBy walker c.args.edge s us c.in_ok-found.found) c.as_slice.ensures
    c.in_ok-found.ensures.step)
    c.loop-chosen.invariant.each c.loop-chosen.invariant.passed
    in record { each = next.0; passed = next.1; scratch = cc }

pub returns-clause-all : goal.returns-clause-all
returns-clause-all c =
    subst (All (IsPassed c.args.walker.now c.args.edge c.args.s.now c.loop-chosen.all.items))
    (take_all c.loop-chosen.chosen-index c.args.lists.now c.loop-chosen-test.false) c.loop-chosen.invariant.passed
