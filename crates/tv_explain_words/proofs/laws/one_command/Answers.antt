use Rattle.tv_explain_words.proofs.Commands.{one_spelled}
use Rattle.tv_explain_words.proofs.laws.one_command.Goals as goal

pub returns : goal.returns
returns c = one_spelled
