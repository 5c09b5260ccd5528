use Rattle.std.proofs.Common.{get_or}
use Rattle.tv_model.specs.Program.{program_of}
use Rattle.tv_replay_step.proofs.Turning.{edge-at, halts-if, moved-if, ready-for, taken-by}
use Rattle.tv_replay_step.proofs.step.next.Goals as goal

pub returns-then-edge-node-clause-halt : goal.returns-then-edge-node-clause-halt
returns-then-edge-node-clause-halt c = (
  taken-by (program_of c.args.ordered.now.program.now) c.requires.valid c.args.step.now
      (get_or c.as_slice.result.now c.args.step.now.edge (record { from = 0; action = 0; to = 0 }))
      (edge-at c.args.ordered.now.program.now.edges c.as_slice.result.now c.args.step.now.edge (record { from = 0; action = 0; to = 0 }) c.as_slice.ensures
      c.requires.step.0),
  λ leaves. c.if-edge-node.true leaves,
)

pub make_turn-requires : goal.make_turn-requires
make_turn-requires c = record {
  ready = ready-for _ c.args.s.now c.args.step.now c.args.scratch.now c.requires.valid c.requires.order c.size.ensures.kept c.requires.two_valued c.requires.over
      c.requires.unmarked c.requires.step.1 c.requires.scratch
      (edge-at c.args.ordered.now.program.now.edges c.as_slice.result.now c.args.step.now.edge (record { from = 0; action = 0; to = 0 }) c.as_slice.ensures
      c.requires.step.0)
      c.as_slice-2.result.now c.as_slice-2.ensures c.index-as_slice-edge.is;
}

pub returns-clause-moved : goal.returns-clause-moved
returns-clause-moved c =
    moved-if _ c.args.s.now c.args.step.now c.args.scratch.now c.args.node
    (ready-for _ c.args.s.now c.args.step.now c.args.scratch.now c.requires.valid c.requires.order c.size.ensures.kept c.requires.two_valued c.requires.over
    c.requires.unmarked c.requires.step.1 c.requires.scratch
    (edge-at c.args.ordered.now.program.now.edges c.as_slice.result.now c.args.step.now.edge (record { from = 0; action = 0; to = 0 }) c.as_slice.ensures
    c.requires.step.0)
    c.as_slice-2.result.now c.as_slice-2.ensures c.index-as_slice-edge.is)
    (edge-at c.args.ordered.now.program.now.edges c.as_slice.result.now c.args.step.now.edge (record { from = 0; action = 0; to = 0 }) c.as_slice.ensures
    c.requires.step.0)
    c.if-edge-node.false c.make_turn.result c.make_turn.ensures.moved

pub returns-clause-halt : goal.returns-clause-halt
returns-clause-halt c =
    halts-if _ c.args.s.now c.args.step.now c.args.scratch.now c.args.node
    (ready-for _ c.args.s.now c.args.step.now c.args.scratch.now c.requires.valid c.requires.order c.size.ensures.kept c.requires.two_valued c.requires.over
    c.requires.unmarked c.requires.step.1 c.requires.scratch
    (edge-at c.args.ordered.now.program.now.edges c.as_slice.result.now c.args.step.now.edge (record { from = 0; action = 0; to = 0 }) c.as_slice.ensures
    c.requires.step.0)
    c.as_slice-2.result.now c.as_slice-2.ensures c.index-as_slice-edge.is)
    (edge-at c.args.ordered.now.program.now.edges c.as_slice.result.now c.args.step.now.edge (record { from = 0; action = 0; to = 0 }) c.as_slice.ensures
    c.requires.step.0)
    c.if-edge-node.false c.make_turn.result c.make_turn.ensures.moved c.make_turn.ensures.halt
