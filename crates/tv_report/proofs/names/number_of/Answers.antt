use Rattle.std.proofs.Common.{sym, refl, ◌∙◌}
use Rattle.std.specs.Str.{bytes_eq}
use Rattle.tv_tvs.specs.Views.{names_of}
use Rattle.tv_lemmas.proofs.Lists.{position-map}
use Rattle.tv_tvs.proofs.Twice.{among_names}
use Rattle.tv_report.proofs.OnceLaws.{name_found}
use Rattle.tv_report.proofs.names.number_of.Goals as goal

pub returns : goal.returns
returns c =
    name_found (names_of c.args.names.now.keys) c.args.name.now c.get_index_of.result
    (c.get_index_of.ensures.index ∙ sym (position-map (λ name. name.now) (bytes_eq c.args.name.now) c.args.names.now.keys))
    (c.get_index_of.ensures.found ∙ among_names (λ a b. bytes_eq a.now b.now) (λ a b. refl) c.args.names.now.keys c.args.name)
