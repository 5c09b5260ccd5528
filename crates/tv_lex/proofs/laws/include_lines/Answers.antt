use Rattle.tv_lex.proofs.IncludeForm.{include_form}
use Rattle.tv_lex.proofs.laws.include_lines.Goals as goal

pub returns : goal.returns
returns c = include_form
