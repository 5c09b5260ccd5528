use Rattle.tv_replay_judge.specs.Trying.{IsFreeIn, implication_of}
use Rattle.tv_replay_judge.proofs.Walked.{found-more}
use Rattle.tv_replay_judge.proofs.rule.variables.Goals as goal

pub loop-v-preserved : goal.loop-v-preserved
loop-v-preserved c = record {
  free = c.in_ok-note.ensures.free c.loop-v.invariant.free;
  found = found-more (λ w. IsFreeIn w (implication_of c.args.trial.now)) c.loop-v.vars c.note.new.vars c.loop-v.v c.loop-v.invariant.found
      c.in_ok-note.ensures.kept c.in_ok-note.ensures.noted;
}
