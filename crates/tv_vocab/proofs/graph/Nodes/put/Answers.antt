use Rattle.std.proofs.Common.{ap, sym, map, ◌∙◌}
use Rattle.std.specs.Str.{bytes_eq}
use Rattle.tv_vocab.proofs.NodeLaws.{among_over, put_new}
use Rattle.tv_vocab.proofs.graph.Nodes.put.Goals as goal

pub returns : goal.returns
returns c =
    let new = sym (among_over (bytes_eq c.args.name.items) c.args.self.now.names.keys) ∙ c.requires.new in
    ap (map (λ one. one.items)) c.in_ok-insert.ensures.keys ∙ put_new c.args.self.now.names.keys c.args.name (λ a b. bytes_eq a.items b.items) new
