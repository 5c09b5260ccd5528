use Rattle.std.proofs.Common.{arith, rules}
use Rattle.tv_heap_steps.specs.Steps.{program_in}
use Rattle.tv_heap_steps.proofs.StepLaws.{accepted_so}
use Rattle.tv_heap_steps.proofs.accepted.is_accepted.Goals as goal

pub returns-clause-accepted : goal.returns-clause-accepted
returns-clause-accepted c =
    let walker = c.args.walker.now
    in accepted_so (program_in walker) walker.mode walker.cells c.args.moved.now
    (omega (arith, c.if-size-walker.false, c.size.ensures.size))
    (c.is_unbroken.ensures.0 c.if-not-is_unbroken.false) c.in_ok-unmet.unmet c.in_ok-unmet.ensures.first
    c.is_none.result (search rules)
