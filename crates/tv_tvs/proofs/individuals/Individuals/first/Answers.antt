use Rattle.std.proofs.Common.{◌∙◌}
use Rattle.tv_tvs.specs.Rows.{pair_prefix}
use Rattle.tv_tvs.proofs.Rooms.{text_at}
use Rattle.tv_tvs.proofs.individuals.Individuals.first.Goals as goal

pub returns : goal.returns
returns c =
    c.index-firsts-u.is
    ∙ text_at pair_prefix c.as_slice-firsts.result.now c.args.u _ (c.as_slice-firsts.ensures.value ∙ c.self.invariant.1) c.requires
