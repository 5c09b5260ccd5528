use Rattle.std.proofs.Common.{◌≡◌, ◌++◌, drop}
use Rattle.tv_model.specs.Program.{program_of}
use Rattle.tv_plan.specs.Orders.{is_held_at}
use Rattle.tv_plan.specs.Texts.{plan_lines}
use Rattle.tv_plan.proofs.plan.append_edges.Given as goal

abbrev pub invariant-loop-number : goal.invariant-loop-number
invariant-loop-number l =
    let p = program_of l.x.program.now in
    let changed = is_held_at l.x.plans.now in
    l.out.items ++ plan_lines p l.x.mode changed l.number (drop l.number l.heads)
    ≡ l.initial.out.items ++ plan_lines p l.x.mode changed 0 l.heads
