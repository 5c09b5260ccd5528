-- Tokens of their kinds, and those that are left behind a mark.
use Rattle.std.proofs.Common.{◌≡◌, ℕ, List, [], ◌∷◌, true, Some, None, All, IfSome}
use Rattle.std.specs.Str.{bytes_eq}
use Rattle.std.proofs.lemmas.List.Elements.{All-tail}
use Rattle.tv_lex.specs.Bytes.{is_word_byte}
use Rattle.tv_lex.specs.Pieces.{Stands, IsRunOf}
use Rattle.tv_lex.specs.Spaced.{IsToken}
use Rattle.tv_lex.specs.Token.{SpecToken}
use Rattle.tv_lex.specs.declared.token.TokenKind.{TokenKind}
use Rattle.tv_lex.specs.declared.token.TokenKind.TheVariants as kind
use Rattle.tv_phrases.specs.Tokens.{after, is_word}
use Rattle.tv_phrases.proofs.Facts.{on_if, at_some}

abbrev pub Tokens : List SpecToken → Type 0
Tokens ts = All IsToken ts

-- a word stands as a run of word bytes
pub run_of : (k : TokenKind) (b : List ℕ) → Stands (Some k) b [] → is_word k ≡ true → IsRunOf is_word_byte b
run_of kind.Word b s e = s
run_of kind.Half b s e = absurd cc
run_of kind.Text b s e = absurd cc
run_of kind.Directive b s e = absurd cc
run_of kind.Parts b s e = absurd cc
run_of kind.Punct b s e = absurd cc

pub leaves_after : (m : List ℕ) (ts : List SpecToken) → Tokens ts → IfSome (after m ts) Tokens
unfolding after
leaves_after m [] are = tt
leaves_after m (t ∷ ts) are =
    on_if (bytes_eq t.bytes m) (Some ts) None Tokens (λ e. All-tail IsToken t ts are) (λ e. tt)

pub after_leaves : (m : List ℕ) (ts us : List SpecToken) → after m ts ≡ Some us → Tokens ts → Tokens us
after_leaves m ts us is are = at_some (after m ts) Tokens us (leaves_after m ts are) is
