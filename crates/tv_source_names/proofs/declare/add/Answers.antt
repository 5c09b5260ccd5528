use Rattle.std.proofs.Common.{not, refl, ap, ◌∙◌}
use Rattle.tv_source_names.proofs.Names.{among_names}
use Rattle.tv_source_names.proofs.declare.add.Goals as goal

pub returns-clause-added : goal.returns-clause-added
returns-clause-added c = c.in_ok-new.ensures.added ∙ ap not (among_names _ (λ a b. refl) c.args.names.now.keys c.args.name)
