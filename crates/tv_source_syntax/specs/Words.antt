-- Names: identifiers that are no words of the language.
use Rattle.std.specs.Prelude.{ℕ, List, Bool, ◌||◌, None, codes, if◌then◌else◌}
use Rattle.std.specs.Str.{bytes_eq}
use Rattle.tv_lex.specs.Token.{SpecToken}
use Rattle.tv_phrases.specs.Reading.{Reading, taken, ◌>>=◌}
use Rattle.tv_phrases.specs.Tokens.{first, identifier_item}

abbrev pub is_own_word : List ℕ → Bool
is_own_word w =
    bytes_eq w (codes "vars") || bytes_eq w (codes "fields") || bytes_eq w (codes "null")
    || bytes_eq w (codes "new")
    || bytes_eq w (codes "if") || bytes_eq w (codes "else") || bytes_eq w (codes "while")

-- a name, and the tokens behind it
unfoldable pub name_at : List SpecToken → Reading (List ℕ)
name_at ts = first identifier_item ts >>= λ x. if is_own_word x.0 then None else taken x.0 x.1
