use Rattle.tv_focus_laws.proofs.ChosenTables.{chosen_tables_show}
use Rattle.tv_focus_laws.proofs.laws.chosen_tables_show.Goals as goal

pub returns : goal.returns
returns c = chosen_tables_show
