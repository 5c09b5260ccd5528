use Rattle.tv_update_laws.proofs.Picked.{only_picks_matter}
use Rattle.tv_update_laws.proofs.laws.only_picks_matter.Goals as goal

pub returns : goal.returns
returns c = only_picks_matter
