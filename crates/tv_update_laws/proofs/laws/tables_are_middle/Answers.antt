use Rattle.tv_update_laws.proofs.Tables.{tables_are_middle}
use Rattle.tv_update_laws.proofs.laws.tables_are_middle.Goals as goal

pub returns : goal.returns
returns c = λ fresh s is. tables_are_middle fresh s is
