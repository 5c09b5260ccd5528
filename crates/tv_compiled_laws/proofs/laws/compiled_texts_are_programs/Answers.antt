use Rattle.tv_compiled_laws.proofs.Written.{compiled_programs}
use Rattle.tv_compiled_laws.proofs.laws.compiled_texts_are_programs.Goals as goal

pub returns : goal.returns
returns c = compiled_programs c.whole_texts_are_gathered.ensures
