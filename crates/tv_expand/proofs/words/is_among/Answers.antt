use Rattle.std.proofs.Common.{◌∙◌}
use Rattle.tv_expand.proofs.WordLaws.{among_names}
use Rattle.tv_expand.proofs.words.is_among.Goals as goal

pub returns : goal.returns
returns c = c.contains.ensures ∙ among_names c.args.words.now.keys c.args.word.now
