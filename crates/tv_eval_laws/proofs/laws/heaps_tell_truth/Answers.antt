use Rattle.tv_eval_laws.proofs.InHeaps.{heaps_tell_truth}
use Rattle.tv_eval_laws.proofs.laws.heaps_tell_truth.Goals as goal

pub returns : goal.returns
returns c = λ h a f inside. heaps_tell_truth h a f inside
