use Rattle.tv_model.specs.Form.{form_of, height}
use Rattle.tv_replay_judge.proofs.trial.+may_hold.Given as goal

abbrev pub decreases-may_hold : goal.decreases-may_hold
decreases-may_hold l = height (form_of l.f.now)
