use Rattle.std.proofs.Common.{◌++◌, ◌∙◌, ap}
use Rattle.tv_lex.specs.Token.{text_of}
use Rattle.tv_tvs.proofs.NameTexts.{brackets_whole}
use Rattle.tv_tvs.proofs.names.put_brackets.Goals as goal

pub returns-in_ok-push-in-Some-2 : goal.returns-in_ok-push-in-Some-2
returns-in_ok-push-in-Some-2 c =
    brackets_whole (text_of c.args.bytes.now) c.args.out.now.items c.push.new.self.items c.extend_from_slice.new.self.items c.put_next.new.out.items
    c.push-in-Some.new.self.items c.in-Some.first.now c.in-Some.others.now c.args.words.now c.in-Some.ensures.cases.0 c.in_ok-push-in-Some.ensures.items
    (c.in_ok-extend_from_slice-in-Some.ensures.items ∙ ap (λ t. c.push.new.self.items ++ t) c.text.ensures) c.in_ok-put_next-in-Some.ensures
    c.in_ok-push-in-Some-2.ensures.items
