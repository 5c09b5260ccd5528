use Rattle.tv_blur.proofs.BlurLaws.{blur_stable}
use Rattle.tv_blur.proofs.laws.blur_keeps_stable.Goals as goal

pub returns : goal.returns
returns c = blur_stable
