-- Phrases of one token.
use Rattle.std.specs.Prelude.{◌≡◌, ℕ, List, [], ◌∷◌, Bool, true, false, not, ◌&&◌, ◌||◌, ◌==◌, Option, Some}
use Rattle.std.specs.Prelude.{if◌then◌else◌, ◌-◌, ◌^◌, nat_lt, length, slice_index, slice_range, codes}
use Rattle.std.specs.Prelude.{None, decimal}
use Rattle.std.specs.Str.{bytes_eq}
use Rattle.std.specs.Str.Parse.{digits_value}
use Rattle.tv_lex.specs.Bytes.{is_letter}
use Rattle.tv_lex.specs.Token.{SpecToken}
use Rattle.tv_lex.specs.declared.token.TokenKind.{TokenKind}
use Rattle.tv_lex.specs.declared.token.TokenKind.TheVariants as kind
use Rattle.tv_phrases.specs.declared.kinds.Item.{Item}
use Rattle.tv_phrases.specs.declared.kinds.Item.TheVariants.{Word, Identifier}
use Rattle.tv_phrases.specs.Reading.{Reading, ◌>>=◌}

-- the tokens behind the first one, where it is spelled like this mark
unfoldable pub after : List ℕ → List SpecToken → Option (List SpecToken)
after mark [] = None
after mark (t ∷ ts) = if bytes_eq t.bytes mark then Some ts else None

-- the tokens begin with one that is spelled like the mark, and `rest` is what stands behind it
abbrev pub Begins : List ℕ → List SpecToken → List SpecToken → Type 0
Begins mark ts rest = after mark ts ≡ Some rest

-- they begin with no such token
abbrev pub Lacks : List ℕ → List SpecToken → Type 0
Lacks mark ts = after mark ts ≡ None

-- what is told of the first token, and the tokens behind it
unfoldable pub first : {X : Type 0} → (SpecToken → Option X) → List SpecToken → Reading X
first item [] = None
first item (t ∷ ts) = item t >>= λ x. Some (x, ts)

abbrev pub is_word : TokenKind → Bool
is_word kind.Word = true
is_word kind.Half = false
is_word kind.Text = false
is_word kind.Directive = false
is_word kind.Parts = false
is_word kind.Punct = false

abbrev pub is_text : TokenKind → Bool
is_text kind.Word = false
is_text kind.Half = false
is_text kind.Text = true
is_text kind.Directive = false
is_text kind.Parts = false
is_text kind.Punct = false

-- the words that are no identifiers
abbrev pub is_reserved : List ℕ → Bool
is_reserved w =
    bytes_eq w (codes "E") || bytes_eq w (codes "A") || bytes_eq w (codes "TC")
    || bytes_eq w (codes "foreach") || bytes_eq w (codes "in")

-- it begins with a letter or `_`
abbrev pub begins_name : List ℕ → Bool
begins_name w = is_letter (slice_index w 0) || (slice_index w 0 == 95)

abbrev pub is_identifier : List ℕ → Bool
is_identifier w = begins_name w && not (is_reserved w)

-- the spelling of a word
abbrev pub word_item : SpecToken → Option (List ℕ)
word_item t = if is_word t.kind then Some t.bytes else None

-- the spelling of an identifier
abbrev pub identifier_item : SpecToken → Option (List ℕ)
identifier_item t = if is_word t.kind && is_identifier t.bytes then Some t.bytes else None

abbrev pub item_of : Item → SpecToken → Option (List ℕ)
item_of Word = word_item
item_of Identifier = identifier_item

-- what stands between the quotes of a string: all but its first and last byte
abbrev pub unquoted : List ℕ → List ℕ
unquoted string = slice_range string 1 (length string - 1)

-- what stands between the quotes of a string
abbrev pub text_item : SpecToken → Option (List ℕ)
text_item t = if is_text t.kind then Some (unquoted t.bytes) else None

-- the number below 2 ^ 32 that is written so in decimal
abbrev pub number_in : List ℕ → Option ℕ
number_in w =
    if nat_lt (digits_value 10 w) (2 ^ 32) && bytes_eq (decimal (digits_value 10 w)) w
    then Some (digits_value 10 w) else None

-- the value of a word that is such a number
abbrev pub number_item : SpecToken → Option ℕ
number_item t = if is_word t.kind then number_in t.bytes else None
