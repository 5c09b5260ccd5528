use Rattle.std.proofs.Common.{◌∙◌, ap, map, arith}
use Rattle.std.proofs.lemmas.List.{length-map}
use Rattle.tv_lex.specs.Token.{spec_token, spec_tokens}
use Rattle.tv_tree.specs.Copies.{action_of}
use Rattle.std.specs.Prelude.{codes}
use Rattle.tv_parse.specs.Reading.{action_reading}
use Rattle.tv_parse.proofs.Lists.{many_start}
use Rattle.tv_phrases.specs.Repeated.{begins_with}
use Rattle.tv_phrases.proofs.Repeats.{many_more}
use Rattle.tv_parse.proofs.program.actions.Goals as goal

pub actions-preserved : goal.actions-preserved
actions-preserved c =
    c.actions.invariant
    ∙ many_more action_of c.actions.list.items c.push.new.self.items c.in_ok-one.one (begins_with (codes "%action")) action_reading c.actions.left c.in_ok-left.left (spec_tokens c.args.bytes.now c.actions.rest.now) (spec_tokens c.args.bytes.now c.in_ok-one.behind.now) c.in_ok-push.ensures.items c.in_ok-left.ensures.value (cc) c.in_ok-one.ensures

pub actions-init : goal.actions-init
actions-init c = many_start (map action_of c.new-list.result.items) (begins_with (codes "%action")) action_reading _ (spec_tokens c.args.bytes.now c.args.tokens.now) (ap (map action_of) c.new-list.ensures.items) (omega (arith, length-map c.args.tokens.now (spec_token c.args.bytes.now)))
