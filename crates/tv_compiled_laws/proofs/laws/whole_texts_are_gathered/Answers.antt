use Rattle.tv_compiled_laws.proofs.Plain.{gathered_whole}
use Rattle.tv_compiled_laws.proofs.laws.whole_texts_are_gathered.Goals as goal

pub returns : goal.returns
returns c = gathered_whole c.comments_over_lines.ensures
