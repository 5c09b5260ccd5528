use Rattle.tv_stable_laws.proofs.Joined.{sharpening_loses_no_stable}
use Rattle.tv_stable_laws.proofs.laws.sharpening_loses_no_stable.Goals as goal

pub returns : goal.returns
returns c = sharpening_loses_no_stable
