use Rattle.tv_explain.proofs.Silence.{silence}
use Rattle.tv_explain.proofs.laws.silence_is_no_line.Goals as goal

pub returns : goal.returns
returns c = silence
