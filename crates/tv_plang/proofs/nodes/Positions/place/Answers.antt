use Rattle.std.proofs.Common.{◌∙◌}
use Rattle.tv_plang.proofs.Sights.{place_missing_by}
use Rattle.tv_plang.proofs.nodes.Positions.place.Goals as goal

pub returns-in-None : goal.returns-in-None
returns-in-None c = c.len.ensures.len ∙ place_missing_by c.args.position c.args.self.now.list.keys c.in-None.ensures.index
