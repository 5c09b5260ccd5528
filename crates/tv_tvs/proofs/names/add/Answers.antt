use Rattle.std.proofs.Common.{not, refl, ap, ◌∙◌}
use Rattle.tv_tvs.proofs.Twice.{among_names}
use Rattle.tv_tvs.proofs.names.add.Goals as goal

pub returns-clause-added : goal.returns-clause-added
returns-clause-added c = c.in_ok-new.ensures.added ∙ ap not (among_names _ (λ a b. refl) c.args.names.now.keys c.args.name)
