use Rattle.std.proofs.Common.{◌∙◌, sym, arith}
use Rattle.std.specs.Prelude.{codes}
use Rattle.std.proofs.lemmas.List.{length-map}
use Rattle.tv_lex.specs.Token.{spec_token, spec_tokens}
use Rattle.tv_tree.specs.Copies.{piece_of}
use Rattle.tv_parse.specs.Reading.{piece_reading}
use Rattle.tv_phrases.proofs.Repeats.{joined_start, joined_more}
use Rattle.tv_parse.proofs.actions.pieces.Goals as goal

pub pieces-init : goal.pieces-init
pieces-init c = joined_start piece_of c.new-list.result.items c.push.new.self.items c.in_ok-first.first (codes "+") piece_reading _ (spec_tokens c.args.bytes.now c.args.tokens.now) (spec_tokens c.args.bytes.now c.in_ok-first.rest.now) c.new-list.ensures.items c.in_ok-push.ensures.items (omega (arith, length-map c.in_ok-first.rest.now (spec_token c.args.bytes.now))) c.in_ok-first.ensures

pub pieces-preserved : goal.pieces-preserved
pieces-preserved c =
    c.pieces.invariant
    ∙ joined_more piece_of c.pieces.list.items c.push-in-pieces.new.self.items c.in_ok-further.further (codes "+") piece_reading c.pieces.left c.in_ok-left.left (spec_tokens c.args.bytes.now c.pieces.rest.now) (spec_tokens c.args.bytes.now c.in-Some.next.now) (spec_tokens c.args.bytes.now c.in_ok-further.behind.now) c.in_ok-push-2.ensures.items c.in_ok-left.ensures.value (sym c.in-Some.ensures.value) c.in_ok-further.ensures
