use Rattle.tv_update_laws.proofs.Tables.{tables_are_kept}
use Rattle.tv_update_laws.proofs.laws.tables_are_kept.Goals as goal

pub returns : goal.returns
returns c = tables_are_kept
