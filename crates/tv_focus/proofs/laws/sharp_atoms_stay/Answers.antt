use Rattle.tv_focus.proofs.Sharp.{sharp_atoms_stay}
use Rattle.tv_focus.proofs.laws.sharp_atoms_stay.Goals as goal

pub returns : goal.returns
returns c = sharp_atoms_stay
