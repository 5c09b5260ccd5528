use Rattle.std.proofs.Common.{sym, ◌∙◌}
use Rattle.std.specs.Str.{bytes_eq}
use Rattle.tv_vocab.proofs.NodeLaws.{among_over}
use Rattle.tv_vocab.proofs.graph.Nodes.has.Goals as goal

pub returns : goal.returns
returns c = c.contains.ensures ∙ sym (among_over (bytes_eq c.args.name.now) c.args.self.now.names.keys)
