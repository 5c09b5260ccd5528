use Rattle.std.proofs.Common.{◌∙◌, sym, arith}
use Rattle.std.proofs.lemmas.List.{length-map}
use Rattle.tv_lex.specs.Token.{spec_token, spec_tokens}
use Rattle.tv_phrases.specs.Tokens.{first}
use Rattle.tv_parse.specs.Kinds.{prop_item}
use Rattle.tv_parse.specs.Grammar.{begins_prop}
use Rattle.tv_parse.proofs.Lists.{props_more, many_start}
use Rattle.tv_parse.proofs.decls.props_at.Goals as goal

pub props-preserved : goal.props-preserved
props-preserved c =
    c.props.invariant
    ∙ props_more c.props.list.items c.push.new.self.items c.in-Some.word c.props.left c.in_ok-left.left (spec_tokens c.args.bytes.now c.props.rest.now) (spec_tokens c.args.bytes.now c.in-Some.behind.now) c.in_ok-push.ensures.items c.in_ok-left.ensures.value (sym c.in-Some.ensures)

pub props-init : goal.props-init
props-init c = many_start c.new-list.result.items begins_prop (first prop_item) _ (spec_tokens c.args.bytes.now c.args.tokens.now) c.new-list.ensures.items (omega (arith, length-map c.args.tokens.now (spec_token c.args.bytes.now)))
