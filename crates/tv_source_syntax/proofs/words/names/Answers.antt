use Rattle.std.proofs.Common.{◌∙◌, sym, arith}
use Rattle.std.specs.Prelude.{codes}
use Rattle.std.proofs.lemmas.List.{length-map}
use Rattle.tv_lex.specs.Token.{text_of, spec_token, spec_tokens}
use Rattle.tv_source_syntax.specs.Words.{name_at}
use Rattle.tv_phrases.proofs.Repeats.{joined_start, joined_more}
use Rattle.tv_source_syntax.proofs.words.names.Goals as goal

pub names-init : goal.names-init
names-init c = joined_start (text_of c.args.bytes.now) c.new-list.result.items c.push.new.self.items c.in_ok-first.first (codes ",") name_at _ (spec_tokens c.args.bytes.now c.args.tokens.now) (spec_tokens c.args.bytes.now c.in_ok-first.rest.now) c.new-list.ensures.items c.in_ok-push.ensures.items (omega (arith, length-map c.in_ok-first.rest.now (spec_token c.args.bytes.now))) c.in_ok-first.ensures

pub names-preserved : goal.names-preserved
names-preserved c =
    c.names.invariant
    ∙ joined_more (text_of c.args.bytes.now) c.names.list.items c.push-in-names.new.self.items c.in_ok-further.further (codes ",") name_at c.names.left c.in_ok-left.left (spec_tokens c.args.bytes.now c.names.rest.now) (spec_tokens c.args.bytes.now c.in-Some.next.now) (spec_tokens c.args.bytes.now c.in_ok-further.behind.now) c.in_ok-push-2.ensures.items c.in_ok-left.ensures.value (sym c.in-Some.ensures.value) c.in_ok-further.ensures
