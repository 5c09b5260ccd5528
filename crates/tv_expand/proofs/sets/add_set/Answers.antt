use Rattle.std.proofs.Common.{◌∙◌, ap}
use Rattle.tv_expand.specs.Views.{sets_of}
use Rattle.tv_expand.proofs.SetLaws.{added_set}
use Rattle.tv_expand.proofs.sets.add_set.Goals as goal

pub returns : goal.returns
returns c = ap sets_of c.in_ok-insert.ensures.entries ∙ added_set c.args.sets.now.entries c.args.name c.args.words c.requires
