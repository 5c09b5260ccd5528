use Rattle.tv_blur.proofs.BlurLaws.{is_one}
use Rattle.tv_blur.proofs.laws.blur_is_one.Goals as goal

pub returns : goal.returns
returns c = is_one
