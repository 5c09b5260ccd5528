-- The tokens of a printed formula.
use Rattle.std.specs.Prelude.{◌≡◌, ℕ, List, ◌++◌, ◌==◌, map, slice_index, codes, if◌then◌else◌, None}
use Rattle.std.specs.Str.{bytes_eq}
use Rattle.std.specs.Char.{is_ascii_digit}
use Rattle.tv_lex.specs.Token.{SpecToken}
use Rattle.tv_lex.specs.declared.token.TokenKind.{TokenKind}
use Rattle.tv_lex.specs.declared.token.TokenKind.TheVariants.{Word, Half, Text, Directive, Parts, Punct}
use Rattle.tv_phrases.specs.Tokens.{after, begins_name}
use Rattle.tv_tree.specs.Forms.{Form}
use Rattle.tv_tree.specs.Printed.{formula_tokens}
use Rattle.tv_formula.specs.Grammar.{arrow}

-- what kind of token is spelled so, by its first bytes
unfoldable pub kind_of : List ℕ → TokenKind
kind_of w =
    if bytes_eq w (codes "1/2") then Half
    else (if begins_name w then Word
    else (if is_ascii_digit (slice_index w 0) then Word
    else (if slice_index w 0 == 34 then Text
    else (if bytes_eq w (codes "%%") then Parts
    else (if slice_index w 0 == 37 then Directive else Punct)))))

-- the token that is spelled so
abbrev pub spell : List ℕ → SpecToken
spell w = record { kind = kind_of w; bytes = w }

-- the tokens that are spelled so, in front of others
abbrev pub spelled : List (List ℕ) → List SpecToken → List SpecToken
spelled ws end = map spell ws ++ end

-- Behind a formula these tokens end it as those did: no mark and no arrow begins them that didn't begin
-- those.
pub record EndsAlike (old new : List SpecToken) : Type 0 where
  pub marks : (mark : List ℕ) → after mark old ≡ None → after mark new ≡ None
  pub arrows : arrow old ≡ None → arrow new ≡ None

-- a formula's tokens, in front of others
abbrev pub formula_front : Form → List SpecToken → List SpecToken
formula_front f end = spelled (formula_tokens f) end
