use Rattle.std.proofs.Common.{◌∙◌, sym}
use Rattle.tv_lex.specs.Token.{text_of, spec_tokens}
use Rattle.tv_phrases.specs.Tokens.{item_of}
use Rattle.tv_phrases.proofs.CommaLists.{item_pushed}
use Rattle.tv_phrases.proofs.lists.comma_list.Goals as goal

pub loop-behind-preserved : goal.loop-behind-preserved
loop-behind-preserved c =
    c.loop-behind.invariant
    ∙ item_pushed (item_of c.args.kind) (text_of c.args.bytes.now) c.loop-behind.list.items c.push-in-Some.new.self.items c.in_ok-next.next (spec_tokens c.args.bytes.now c.loop-behind.rest.now) (spec_tokens c.args.bytes.now c.in-Some.behind.now) (spec_tokens c.args.bytes.now c.in_ok-next.further.now) c.in_ok-push-2.ensures.items (sym c.in-Some.ensures.value) c.in_ok-next.ensures.value
