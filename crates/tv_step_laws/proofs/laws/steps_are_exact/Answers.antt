use Rattle.tv_step_laws.proofs.Exact.{opening-once, results-once, values-once}
use Rattle.tv_step_laws.proofs.laws.steps_are_exact.Goals as goal

pub returns : goal.returns
returns c = λ p valid s. record {
  openings = opening-once p s;
  results = λ mode edge. results-once p valid mode edge s;
  values = λ edge. values-once p edge s;
}
