use Rattle.tv_model.specs.Form.{form_of, height}
use Rattle.tv_replay_judge.proofs.trial.+body_row.Given as goal

abbrev pub decreases-body_row : goal.decreases-body_row
decreases-body_row l = height (form_of l.f.now)
