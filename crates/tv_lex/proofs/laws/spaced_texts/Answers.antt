use Rattle.tv_lex.proofs.SpacedTexts.{spaced_reads}
use Rattle.tv_lex.proofs.laws.spaced_texts.Goals as goal

pub returns : goal.returns
returns c = spaced_reads
