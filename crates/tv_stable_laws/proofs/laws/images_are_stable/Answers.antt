use Rattle.tv_stable_laws.proofs.Images.{images_are_stable}
use Rattle.tv_stable_laws.proofs.laws.images_are_stable.Goals as goal

pub returns : goal.returns
returns c = images_are_stable
