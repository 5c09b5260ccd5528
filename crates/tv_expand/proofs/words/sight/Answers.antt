use Rattle.std.proofs.Common.{◌∙◌, ap}
use Rattle.tv_expand.specs.Views.{names_of}
use Rattle.tv_expand.proofs.WordLaws.{seen_new, seen_names}
use Rattle.tv_expand.proofs.words.sight.Goals as goal

pub returns-clause-new : goal.returns-clause-new
returns-clause-new c = c.in_ok-insert.ensures.added ∙ seen_new c.args.seen.now.keys c.args.word.now

pub returns-clause-seen : goal.returns-clause-seen
returns-clause-seen c = ap names_of c.in_ok-insert.ensures.keys ∙ seen_names c.args.seen.now.keys c.args.word
