use Rattle.tv_blur.proofs.BlurLaws.{keeps_names}
use Rattle.tv_blur.proofs.laws.blur_keeps_names.Goals as goal

pub returns : goal.returns
returns c = keeps_names
