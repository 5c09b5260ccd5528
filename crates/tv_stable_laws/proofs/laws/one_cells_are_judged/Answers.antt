use Rattle.tv_stable_laws.proofs.OneCells.{one_cell_laws}
use Rattle.tv_stable_laws.proofs.laws.one_cells_are_judged.Goals as goal

pub returns : goal.returns
returns c = one_cell_laws
