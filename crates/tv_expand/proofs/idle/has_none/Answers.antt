use Rattle.tv_expand.proofs.IdleLaws.{no_words}
use Rattle.tv_expand.proofs.idle.has_none.Goals as goal

pub returns : goal.returns
returns c = rw c.len.ensures.len (no_words c.args.words.now.keys)
