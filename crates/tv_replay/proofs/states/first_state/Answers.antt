use Rattle.tv_replay.proofs.Readiness.{ready}
use Rattle.tv_replay.proofs.states.first_state.Goals as goal

pub first_unlike-broken-requires : goal.first_unlike-broken-requires
first_unlike-broken-requires c = record {
  ready = ready c.args.judge.now c.args.scratch.now c.requires.judge 0 c.args.start.now c.requires.start;
}
