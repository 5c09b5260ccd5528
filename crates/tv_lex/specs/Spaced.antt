-- Texts that are made of tokens.
use Rattle.std.specs.Prelude.{ℕ, List, [], ◌∷◌, ◌++◌, Some, IsTrue, map}
use Rattle.std.specs.List.{flat_map}
use Rattle.tv_lex.specs.Bytes.{is_blank}
use Rattle.tv_lex.specs.Token.{SpecToken}
use Rattle.tv_lex.specs.Pieces.{Stands}

-- the bytes are a token of its kind
abbrev pub IsToken : SpecToken → Type 0
IsToken t = Stands (Some t.kind) t.bytes []

-- a token, and the blank behind it
pub record Spaced : Type 0 where
  pub token : SpecToken
  pub blank : ℕ
  pub is_token : IsToken token
  pub is_blank : IsTrue (is_blank blank)

-- the tokens in a row, each with its blank
abbrev pub spaced_text : List Spaced → List ℕ
spaced_text parts = flat_map (λ p. p.token.bytes ++ p.blank ∷ []) parts

abbrev pub spaced_tokens : List Spaced → List SpecToken
spaced_tokens parts = map (λ p. p.token) parts
