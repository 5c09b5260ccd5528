use Rattle.tv_step.proofs.Engines.{engine-answers}
use Rattle.tv_judge.proofs.steps.step_of.Goals as goal

pub step_of-requires-clause-edge : goal.step_of-requires-clause-edge
step_of-requires-clause-edge c = rw c.requires.ready.1 c.requires.edge

pub step_of-requires-clause-over : goal.step_of-requires-clause-over
step_of-requires-clause-over c = rw c.requires.ready.1 c.requires.over

pub step_of-requires-clause-stable : goal.step_of-requires-clause-stable
step_of-requires-clause-stable c = rw c.requires.ready.1 c.requires.stable

pub returns-clause-step : goal.returns-clause-step
returns-clause-step c = engine-answers _ _ _ _ _ c.requires.ready.1 c.step_of.ensures.step
