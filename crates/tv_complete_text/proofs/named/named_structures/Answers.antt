use Rattle.std.proofs.Common.{◌≡◌, None, subst}
use Rattle.tv_lex.specs.Token.{spec_tokens}
use Rattle.tv_phrases.specs.Reading.{Told}
use Rattle.tv_phrases.specs.declared.error.PhraseError.{PhraseError}
use Rattle.tv_complete_text.specs.Named.{text_of_named}
use Rattle.tv_complete_text.proofs.Naming.{never-refused, are-named}
use Rattle.tv_complete_text.proofs.named.named_structures.Goals as goal

pub unreachable-requires : goal.unreachable-requires
unreachable-requires c =
    never-refused (spec_tokens c.args.bytes.now c.args.tokens.now) c.requires.0 c.requires.1
    (subst (λ (fault : PhraseError). Told fault (text_of_named (spec_tokens c.args.bytes.now c.args.tokens.now) ≡ None))
    c.in-Err-Unexpected.field-0-is c.in-Err-Unexpected.ensures)

pub returns-in-Ok : goal.returns-in-Ok
returns-in-Ok c =
    are-named (spec_tokens c.args.bytes.now c.args.tokens.now) c.requires.0 _ c.requires.1 c.in-Ok.ensures
