use Rattle.std.proofs.Common.{List, subst}
use Rattle.tv_model.specs.Program.{program_of}
use Rattle.tv_model.proofs.Parts.{start-node}
use Rattle.tv_replay_laws.specs.States.{IsReplay}
use Rattle.tv_trace.specs.declared.trace.Move.{Move}
use Rattle.tv_replay.proofs.Going.{shows}
use Rattle.tv_replay.proofs.run.replay.Goals as goal

pub all_states-requires-clause-start : goal.all_states-requires-clause-start
all_states-requires-clause-start c = record {
  there = start-node (program_of c.args.program.now) c.requires.valid;
  structure = c.size.ensures.kept;
  over = c.requires.over;
  two_valued = c.requires.two_valued;
  unmarked = c.requires.unmarked;
}

pub returns-clause-given : goal.returns-clause-given
returns-clause-given c =
    (shows c.args.program.now c.requires.valid c.args.initial.now c.args.start.now c.size.ensures.kept c.requires.two_valued c.requires.over
    c.requires.unmarked c.args.trace.now.moves c.args.listing.now c.in_ok-list.list
    (subst (λ (moves : List Move). IsReplay (program_of c.args.program.now) c.args.initial.now c.args.start.now moves c.args.listing.now
    c.in_ok-list.list) c.as_slice-moves.ensures c.in_ok-list.ensures.states)).0

pub returns-clause-recomputed : goal.returns-clause-recomputed
returns-clause-recomputed c =
    (shows c.args.program.now c.requires.valid c.args.initial.now c.args.start.now c.size.ensures.kept c.requires.two_valued c.requires.over
    c.requires.unmarked c.args.trace.now.moves c.args.listing.now c.in_ok-list.list
    (subst (λ (moves : List Move). IsReplay (program_of c.args.program.now) c.args.initial.now c.args.start.now moves c.args.listing.now
    c.in_ok-list.list) c.as_slice-moves.ensures c.in_ok-list.ensures.states)).1
