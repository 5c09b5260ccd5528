use Rattle.tv_plang_laws.proofs.Valid.{compiled_is_valid}
use Rattle.tv_plang_laws.proofs.compiled_is_valid.Goals as goal

pub returns : goal.returns
returns c = compiled_is_valid
