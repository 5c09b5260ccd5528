use Rattle.std.proofs.Common.{◌∙◌}
use Rattle.std.specs.Str.{bytes_eq}
use Rattle.tv_vocab.proofs.NodeLaws.{place_found, place_missing}
use Rattle.tv_vocab.proofs.graph.Nodes.number.Goals as goal

pub returns-in-Some : goal.returns-in-Some
returns-in-Some c = place_found (bytes_eq c.args.name.now) c.args.self.now.names.keys c.in-Some.number c.in-Some.ensures.index

pub returns-in-None : goal.returns-in-None
returns-in-None c = c.len.ensures.len ∙ place_missing (bytes_eq c.args.name.now) c.args.self.now.names.keys c.in-None.ensures.index
