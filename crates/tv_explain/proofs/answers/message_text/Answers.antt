use Rattle.tv_explain_words.specs.Words.{analyzed_of}
use Rattle.tv_explain.proofs.answers.message_text.Goals as goal

pub returns-in-Err-clause-cause : goal.returns-in-Err-clause-cause
returns-in-Err-clause-cause c = c.in-Err.ensures.cause (analyzed_of c.args.of.now)
