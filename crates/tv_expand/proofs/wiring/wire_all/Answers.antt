use Rattle.std.proofs.Common.{sym, ◌∙◌, arith}
use Rattle.std.proofs.lemmas.Result.{err_from_is_err_and}
use Rattle.tv_expand.proofs.SetLaws.{fails_same}
use Rattle.tv_tree.specs.Copies.{edge_of}
use Rattle.tv_expand.specs.Expansion.{wired, nothing_wired}
use Rattle.tv_expand.specs.Views.{actions_of, sets_of}
use Rattle.tv_expand.specs.States.{room_of, wired_of}
use Rattle.tv_expand.proofs.StepLaws.{each_map, each_more, each_fails}
use Rattle.tv_expand.proofs.CallLaws.{begun_few, wired_few}
use Rattle.tv_expand.proofs.wiring.wire_all.Goals as goal

pub loop-edge-init : goal.loop-edge-init
loop-edge-init c = (
  rw c.nothing_wired-state.ensures (sym (each_map (wired (sets_of c.args.sets.now.entries) (actions_of c.args.actions.now.entries)) edge_of c.args.edges.now (nothing_wired (room_of c.args.room)))),
  begun_few c.nothing_wired-state.result c.args.room c.nothing_wired-state.ensures (omega arith),
)

pub returns-in_err-wire : goal.returns-in_err-wire
returns-in_err-wire c =
    let p = err_from_is_err_and c.from_residual.result c.from_residual.ensures.1 in
    rw (p.1, p.2) (fails_same _ _ _ c.loop-edge.invariant.0 (each_fails (λ e. wired (sets_of c.args.sets.now.entries) (actions_of c.args.actions.now.entries) (edge_of e)) c.args.edges.now c.loop-edge.edge-index c.edge-item.result (wired_of c.loop-edge.state) _ c.loop-edge-test.true c.edge-item.is c.in_err-wire.ensures))

pub loop-edge-preserved : goal.loop-edge-preserved
loop-edge-preserved c = (
  each_more (λ e. wired (sets_of c.args.sets.now.entries) (actions_of c.args.actions.now.entries) (edge_of e)) c.args.edges.now c.loop-edge.edge-index c.edge-item.result (wired_of c.loop-edge.state) (wired_of c.wire.new.state) c.loop-edge-test.true c.edge-item.is c.in_ok-wire.ensures ∙ c.loop-edge.invariant.0,
  wired_few (sets_of c.args.sets.now.entries) (actions_of c.args.actions.now.entries) (edge_of c.edge-item.result) c.loop-edge.state c.wire.new.state c.in_ok-wire.ensures c.loop-edge.invariant.1,
)
