use Rattle.tv_update_laws.proofs.OneTables.{given_tables_are_one}
use Rattle.tv_update_laws.proofs.laws.given_tables_are_one.Goals as goal

pub returns : goal.returns
returns c = given_tables_are_one
