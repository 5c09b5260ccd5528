use Rattle.tv_plan.specs.Orders.{ArePlansTo}
use Rattle.tv_plan.proofs.orders.plans.Given as goal

abbrev pub invariant-loop-edge : goal.invariant-loop-edge
invariant-loop-edge l = ArePlansTo l.program l.mode l.edge-index l.plans.items
