-- What the reader takes from the front of a text. That this is the longest piece that fits is proved.
use Rattle.std.specs.Prelude.{ℕ, ◌+◌, List, Bool, if◌then◌else◌, ◌&&◌, ◌||◌, ◌==◌, not, nat_le, Option, Some}
use Rattle.std.specs.Prelude.{None, Result, Ok, Err, length, drop, slice_index}
use Rattle.std.specs.List.{prefix_len, list_any}
use Rattle.tv_lex.specs.Bytes.{is_blank, is_word_byte, is_letter, is_text_byte, stays_on_line}
use Rattle.tv_lex.specs.Pieces.{close_at, single_punctuations}
use Rattle.tv_lex.specs.declared.front.Front.{Front}
use Rattle.tv_lex.specs.declared.token.TokenKind.{TokenKind}
use Rattle.tv_lex.specs.declared.token.TokenKind.TheVariants.{Word, Half, Text, Directive, Parts, Punct}
use Rattle.tv_lex.specs.declared.token.LexError.{LexError}
use Rattle.tv_lex.specs.declared.token.LexError.TheVariants.{BadByte, Unended}

abbrev pub gap : ℕ → Result Front LexError
gap n = Ok (record { kind = None; len = n })

abbrev pub token : TokenKind → ℕ → Result Front LexError
token k n = Ok (record { kind = Some k; len = n })

-- `1/2`, and no longer word
abbrev pub is_half : List ℕ → Bool
is_half text =
    (slice_index text 0 == 49 && (slice_index text 1 == 47 && slice_index text 2 == 50))
    && not (is_word_byte (slice_index text 3))

abbrev pub word_front : List ℕ → Result Front LexError
word_front text = if is_half text then token Half 3 else token Word (prefix_len is_word_byte text)

-- a string, from behind its first quote on
abbrev pub string_front : List ℕ → Result Front LexError
string_front inside =
    let n = prefix_len is_text_byte inside in
    if slice_index inside n == 34 then token Text (n + 2)
    else (if nat_le (length inside) n || slice_index inside n == 10 then Err Unended else Err BadByte)

abbrev pub block_front : Option ℕ → Result Front LexError
block_front None = Err Unended
block_front (Some n) = gap (n + 4)

abbrev pub comment_front : List ℕ → Result Front LexError
comment_front text =
    if slice_index text 1 == 47 then gap (prefix_len stays_on_line (drop 2 text) + 2)
    else (if slice_index text 1 == 42 then block_front (close_at (drop 2 text)) else Err BadByte)

abbrev pub percent_front : List ℕ → Result Front LexError
percent_front text =
    if slice_index text 1 == 37 then token Parts 2
    else (if is_letter (slice_index text 1) then token Directive (prefix_len is_letter (drop 1 text) + 1)
    else Err BadByte)

abbrev pub is_triple : ℕ → ℕ → ℕ → Bool
is_triple a b c = (a == 61 && (b == 61 && c == 62)) || (a == 60 && (b == 45 && c == 62))

abbrev pub is_pair : ℕ → ℕ → Bool
is_pair a b = (a == 45 && b == 62) || ((a == 61 && b == 61) || (a == 33 && b == 61))

abbrev pub is_single : ℕ → Bool
is_single a = list_any (λ b. a == b) single_punctuations

abbrev pub punct_front : List ℕ → Result Front LexError
punct_front text =
    if is_triple (slice_index text 0) (slice_index text 1) (slice_index text 2) then token Punct 3
    else (if is_pair (slice_index text 0) (slice_index text 1) then token Punct 2
    else (if is_single (slice_index text 0) then token Punct 1 else Err BadByte))

unfoldable pub front : List ℕ → Result Front LexError
front text =
    if is_blank (slice_index text 0) then gap 1
    else (if is_word_byte (slice_index text 0) then word_front text
    else (if slice_index text 0 == 34 then string_front (drop 1 text)
    else (if slice_index text 0 == 47 then comment_front text
    else (if slice_index text 0 == 37 then percent_front text
    else punct_front text))))
