use Rattle.std.proofs.Common.{refl, ◌∙◌}
use Rattle.tv_source_names.proofs.Names.{among_names}
use Rattle.tv_source_names.proofs.declare.contains.Goals as goal

pub returns : goal.returns
returns c = c.contains.ensures ∙ among_names _ (λ a b. refl) c.args.names.now.keys c.args.name
