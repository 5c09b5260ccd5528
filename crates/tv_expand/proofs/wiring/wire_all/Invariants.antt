use Rattle.std.proofs.Common.{◌≡◌, ◌+◌, ◌≤◌, length, drop, map}
use Rattle.tv_tree.specs.Copies.{edge_of}
use Rattle.tv_expand.specs.Outcome.{each}
use Rattle.tv_expand.specs.Expansion.{wired, nothing_wired}
use Rattle.tv_expand.specs.Views.{actions_of, sets_of}
use Rattle.tv_expand.specs.States.{room_of, wired_of}
use Rattle.tv_expand.proofs.wiring.wire_all.Given as goal

-- the state so far and the edges that are left give what all edges give; the calls so far and the items that may still
-- come are few
abbrev pub invariant-loop-edge : goal.invariant-loop-edge
invariant-loop-edge l =
    (each (λ e. wired (sets_of l.sets.entries) (actions_of l.actions.entries) (edge_of e)) (drop l.edge-index l.edges) (wired_of l.state) ≡ each (wired (sets_of l.sets.entries) (actions_of l.actions.entries)) (map edge_of l.edges) (nothing_wired (room_of l.fn.room)))
    × (length l.state.calls.keys + l.state.room.items ≤ 4294967295)
