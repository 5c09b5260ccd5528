use Rattle.tv_two_valued.proofs.Heaps.{heaps_are_told}
use Rattle.tv_two_valued.proofs.laws.heaps_are_told.Goals as goal

pub returns : goal.returns
returns c = heaps_are_told
