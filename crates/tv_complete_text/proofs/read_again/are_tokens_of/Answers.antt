use Rattle.tv_lex.specs.Token.{spec_tokens}
use Rattle.tv_complete_text.proofs.Comparing.{compared}
use Rattle.tv_complete_text.proofs.read_again.are_tokens_of.Goals as goal

pub returns-in-Ok-clause-value : goal.returns-in-Ok-clause-value
returns-in-Ok-clause-value c =
    compared c.one_reading.ensures c.args.vocab.now (spec_tokens c.args.text.now c.args.tokens.now.list.items)
    c.in-Ok.read c.args.structures.now c.eq.result c.eq.ensures (λ k d lt. (c.in-Ok.ensures.over k d lt).1)
    c.requires.unmarked
    c.in-Ok.ensures.meant
