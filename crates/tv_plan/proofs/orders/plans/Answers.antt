use Rattle.std.proofs.Common.{◌≡◌, ◌∙◌, ◌+◌, get_or, ap, subst, sym, Some}
use Rattle.std.specs.Prelude.{slice_get}
use Rattle.std.proofs.lemmas.Option.{slice_get-get_or}
use Rattle.tv_model.specs.declared.program.Edge.{Edge}
use Rattle.tv_plan.specs.Orders.{ArePlansTo}
use Rattle.tv_plan.proofs.Planned.{plans-next}
use Rattle.tv_plan.proofs.orders.plans.Goals as goal

pub loop-edge-preserved : goal.loop-edge-preserved
loop-edge-preserved c =
    let program = c.args.program.now in
    let at = c.loop-edge.edge-index in
    let edge : Edge = get_or c.as_slice-edge-items.result.now at (record { from = 0; action = 0; to = 0 }) in
    let here : slice_get program.edges at ≡ Some edge =
    ap (λ es. slice_get es at) (sym c.as_slice-edge-items.ensures)
    ∙ slice_get-get_or c.as_slice-edge-items.result.now at (record { from = 0; action = 0; to = 0 })
    c.loop-edge-test.true in
    subst (ArePlansTo program c.args.mode (at + 1)) (sym c.in_ok-push.ensures.items)
    (plans-next program c.args.mode c.loop-edge.plans.items at edge c.in_ok-plan_for.field-0
    c.loop-edge.invariant here c.in_ok-plan_for.ensures)
