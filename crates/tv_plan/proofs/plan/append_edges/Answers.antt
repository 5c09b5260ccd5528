use Rattle.std.proofs.Common.{◌≡◌, ◌∙◌, Some, ap, arith, sym}
use Rattle.std.specs.Prelude.{slice_get}
use Rattle.std.proofs.lemmas.Option.{slice_get-get_or}
use Rattle.tv_model.specs.Program.{program_of}
use Rattle.tv_plan.specs.Orders.{is_held_at}
use Rattle.tv_plan.proofs.Turns.{edge_turn}
use Rattle.tv_plan.proofs.plan.append_edges.Goals as goal

pub loop-number-preserved : goal.loop-number-preserved
loop-number-preserved c =
    let p = program_of c.args.x.now.program.now in
    let number = c.loop-number.number in
    let head = c.as_slice.result.now in
    let here : slice_get c.args.heads.now number ≡ Some head =
    slice_get-get_or c.args.heads.now number c.index-heads-number.result
    (omega (arith, c.loop-number-test.true, c.loop-number.auto.number-end))
    ∙ ap Some (sym c.index-heads-number.is ∙ sym c.as_slice.ensures) in
    edge_turn p c.args.x.now.mode (is_held_at c.args.x.now.plans.now) c.args.heads.now number head
    c.loop-number.out.items c.append_head.new.out.items c.append_along.new.out.items _ here
    c.in_ok-append_head.ensures c.in_ok-append_along.ensures c.loop-number.invariant
