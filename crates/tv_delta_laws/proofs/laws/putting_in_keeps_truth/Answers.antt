use Rattle.tv_delta_laws.proofs.PutTruths.{putting_in_keeps_truth}
use Rattle.tv_delta_laws.proofs.laws.putting_in_keeps_truth.Goals as goal

pub returns : goal.returns
returns c = putting_in_keeps_truth
