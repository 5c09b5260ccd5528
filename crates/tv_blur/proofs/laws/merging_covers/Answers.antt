use Rattle.tv_blur.proofs.MergedLaws.{covers}
use Rattle.tv_blur.proofs.laws.merging_covers.Goals as goal

pub returns : goal.returns
returns c = covers
