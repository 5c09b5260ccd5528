use Rattle.std.proofs.Common.{◌∙◌}
use Rattle.tv_expand.proofs.SetLaws.{set_there}
use Rattle.tv_expand.proofs.sets.is_declared.Goals as goal

pub returns : goal.returns
returns c = c.contains_key.ensures ∙ set_there c.args.sets.now.entries c.args.name.now
