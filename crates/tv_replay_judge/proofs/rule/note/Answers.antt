use Rattle.std.proofs.Common.{refl}
use Rattle.tv_replay_judge.specs.Trying.{IsFreeIn, implication_of}
use Rattle.tv_replay_judge.proofs.Walked.{noted-free}
use Rattle.tv_replay_judge.proofs.rule.note.Goals as goal

pub returns-in_ok-push-clause-free : goal.returns-in_ok-push-clause-free
returns-in_ok-push-clause-free c =
    noted-free (λ w. IsFreeIn w (implication_of c.args.trial.now)) c.args.vars.now c.push.new.self c.args.v c.in_ok-push.ensures
    (c.if-is_free_in.ensures.0 refl)
