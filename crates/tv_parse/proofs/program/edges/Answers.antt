use Rattle.std.proofs.Common.{◌∙◌, ap, map, arith}
use Rattle.std.proofs.lemmas.List.{length-map}
use Rattle.tv_lex.specs.Token.{spec_token, spec_tokens}
use Rattle.tv_tree.specs.Copies.{edge_of}
use Rattle.tv_parse.specs.Grammar.{begins_edge}
use Rattle.tv_parse.specs.Reading.{edge_reading}
use Rattle.tv_parse.proofs.Lists.{many_start}
use Rattle.tv_phrases.proofs.Repeats.{many_more}
use Rattle.tv_parse.proofs.program.edges.Goals as goal

pub edges-preserved : goal.edges-preserved
edges-preserved c =
    c.edges.invariant
    ∙ many_more edge_of c.edges.list.items c.push.new.self.items c.in_ok-one.one begins_edge edge_reading c.edges.left c.in_ok-left.left (spec_tokens c.args.bytes.now c.edges.rest.now) (spec_tokens c.args.bytes.now c.in_ok-one.behind.now) c.in_ok-push.ensures.items c.in_ok-left.ensures.value (cc) c.in_ok-one.ensures

pub edges-init : goal.edges-init
edges-init c = many_start (map edge_of c.new-list.result.items) begins_edge edge_reading _ (spec_tokens c.args.bytes.now c.args.tokens.now) (ap (map edge_of) c.new-list.ensures.items) (omega (arith, length-map c.args.tokens.now (spec_token c.args.bytes.now)))
