use Rattle.std.proofs.Common.{◌∙◌, sym, ap, map, arith}
use Rattle.std.proofs.lemmas.List.{length-map}
use Rattle.tv_lex.specs.Token.{spec_token, spec_tokens}
use Rattle.tv_tree.specs.Copies.{part_of}
use Rattle.tv_parse.proofs.Lists.{parts_more, parts_start}
use Rattle.tv_parse.proofs.actions.parts.Goals as goal

pub parts-preserved : goal.parts-preserved
parts-preserved c =
    c.parts.invariant
    ∙ parts_more c.parts.list.items c.push.new.self.items c.in_ok-part.part c.parts.left c.in_ok-left.left c.in-Some.kind (spec_tokens c.args.bytes.now c.parts.rest.now) (spec_tokens c.args.bytes.now c.in-Some.next.now) (spec_tokens c.args.bytes.now c.in_ok-part.behind.now) c.in_ok-push.ensures.items c.in_ok-left.ensures.value (sym c.in-Some.ensures) (cc) c.in_ok-part.ensures

pub parts-init : goal.parts-init
parts-init c = parts_start (map part_of c.new-list.result.items) _ (spec_tokens c.args.bytes.now c.args.tokens.now) (ap (map part_of) c.new-list.ensures.items) (omega (arith, length-map c.args.tokens.now (spec_token c.args.bytes.now)))
