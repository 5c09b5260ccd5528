use Rattle.std.proofs.Common.{sym, ◌∙◌}
use Rattle.std.specs.Str.{bytes_eq}
use Rattle.tv_lemmas.proofs.Lists.{position-map}
use Rattle.tv_tvs.proofs.names.number_of.Goals as goal

pub returns-clause-number : goal.returns-clause-number
returns-clause-number c = c.get_index_of.ensures.index ∙ sym (position-map (λ name. name.now) (bytes_eq c.args.name.now) c.args.names.now.keys)
