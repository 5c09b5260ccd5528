use Rattle.std.proofs.Common.{◌∙◌}
use Rattle.tv_tvs.specs.Rows.{listed_name}
use Rattle.tv_tvs.proofs.Rooms.{text_at}
use Rattle.tv_tvs.proofs.individuals.Individuals.last.Goals as goal

pub returns : goal.returns
returns c =
    c.index-lasts-u.is
    ∙ text_at listed_name c.as_slice-lasts.result.now c.args.u _ (c.as_slice-lasts.ensures.value ∙ c.self.invariant.0) c.requires
