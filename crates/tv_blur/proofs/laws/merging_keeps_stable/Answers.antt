use Rattle.tv_blur.proofs.MergedLaws.{keeps_stable}
use Rattle.tv_blur.proofs.laws.merging_keeps_stable.Goals as goal

pub returns : goal.returns
returns c = keeps_stable
