-- Tokens as they are in mathematics: a kind and bytes, without where they stand.
use Rattle.std.specs.Prelude.{◌≡◌, ℕ, List, map, slice_range}
use Rattle.tv_lex.specs.declared.token.Token.{Token}
use Rattle.tv_lex.specs.declared.token.TokenKind.{TokenKind}

-- a token by itself
pub record SpecToken : Type 0 where
  pub kind : TokenKind
  pub bytes : List ℕ

-- the bytes of a token's span, as far as the text has them
abbrev pub text_of : List ℕ → Token → List ℕ
text_of bytes t = slice_range bytes t.start t.end

abbrev pub spec_token : List ℕ → Token → SpecToken
spec_token bytes t = record { kind = t.kind; bytes = text_of bytes t }

-- tokens that were read from these bytes
abbrev pub spec_tokens : List ℕ → List Token → List SpecToken
spec_tokens bytes tokens = map (spec_token bytes) tokens

-- tokens mean one thing at most
abbrev pub HaveOneMeaning : {X : Type 0} → (List SpecToken → X → Type 0) → Type 0
HaveOneMeaning {X} Means = (ts : List SpecToken) (x y : X) → Means ts x → Means ts y → x ≡ y
