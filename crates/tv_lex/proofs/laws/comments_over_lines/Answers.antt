use Rattle.tv_lex.proofs.OpenComments.{comments_agree}
use Rattle.tv_lex.proofs.laws.comments_over_lines.Goals as goal

pub returns : goal.returns
returns c = comments_agree
