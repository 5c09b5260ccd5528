use Rattle.tv_focus.proofs.Limits.{atoms-over}
use Rattle.tv_focus.proofs.laws.formulas_have_atoms_over.Goals as goal

pub returns : goal.returns
returns c = atoms-over
