-- A text is cut into pieces: blanks, comments and tokens. Each piece is the longest that can stand at its
-- place, as is usual for programming languages ("maximal munch": Aho, Lam, Sethi, Ullman, "Compilers",
-- section 3.5).
use Rattle.std.specs.Prelude.{◌≡◌, ℕ, ◌+◌, ◌<◌, ◌≤◌, List, [], ◌∷◌, ◌++◌, Bool, if◌then◌else◌, ◌&&◌, ◌==◌}
use Rattle.std.specs.Prelude.{◌⊎◌, Option, Some, None, Result, Ok, Err, length, map, slice_index, IsTrue}
use Rattle.std.specs.Prelude.{IsFalse, ⊤}
use Rattle.std.specs.List.{list_all, flat_map}
use Rattle.std.specs.Option.{option_map}
use Rattle.tv_lex.specs.Bytes.{is_blank, is_word_byte, is_letter, is_text_byte, stays_on_line}
use Rattle.tv_lex.specs.declared.token.Token.{Token}
use Rattle.tv_lex.specs.declared.token.TokenKind.{TokenKind}
use Rattle.tv_lex.specs.declared.token.TokenKind.TheVariants.{Word, Half, Text, Directive, Parts, Punct}
use Rattle.tv_lex.specs.declared.token.LexError.{LexError}
use Rattle.tv_lex.specs.declared.token.LexError.TheVariants.{BadByte, Unended, Memory}

-- `(){}[],:+-*=!&|?`
abbrev pub single_punctuations : List ℕ
single_punctuations = 40 ∷ 41 ∷ 123 ∷ 125 ∷ 91 ∷ 93 ∷ 44 ∷ 58 ∷ 43 ∷ 45 ∷ 42 ∷ 61 ∷ 33 ∷ 38 ∷ 124 ∷ 63 ∷ []

-- `==>` `<->` `->` `==` `!=` and the single ones
abbrev pub punctuations : List (List ℕ)
punctuations =
    (61 ∷ 61 ∷ 62 ∷ []) ∷ (60 ∷ 45 ∷ 62 ∷ []) ∷ (45 ∷ 62 ∷ []) ∷ (61 ∷ 61 ∷ []) ∷ (33 ∷ 61 ∷ []) ∷ map
    (λ b. b ∷ []) single_punctuations

-- the bytes are one of these
abbrev pub IsOneOf : List (List ℕ) → List ℕ → Type 0
IsOneOf [] bytes = ⊥
IsOneOf (m ∷ ms) bytes = (bytes ≡ m) ⊎ IsOneOf ms bytes

-- at least one byte, and each passes the test
abbrev pub IsRunOf : (ℕ → Bool) → List ℕ → Type 0
IsRunOf test bytes = (0 < length bytes) × IsTrue (list_all test bytes)

-- where the first `*/` stands
abbrev pub close_at : List ℕ → Option ℕ
close_at [] = None
close_at (b ∷ bs) =
    if b == 42 && slice_index bs 0 == 47 then Some 0 else option_map (λ n. n + 1) (close_at bs)

abbrev pub IsBlank : List ℕ → Type 0
IsBlank bytes = (b : ℕ) × (bytes ≡ b ∷ []) × IsTrue (is_blank b)

-- from `//` on, within a line
abbrev pub IsLineComment : List ℕ → Type 0
IsLineComment bytes = (inside : List ℕ) × (bytes ≡ 47 ∷ 47 ∷ inside) × IsTrue (list_all stays_on_line inside)

-- from `/*` to the next `*/`
abbrev pub IsBlockComment : List ℕ → Type 0
IsBlockComment bytes =
    (inside : List ℕ) × (n : ℕ) × (bytes ≡ 47 ∷ 42 ∷ inside) × (close_at inside ≡ Some n)
    × (n + 2 ≡ length inside)

-- What a piece of each kind is, where `behind` follows it. A piece without a kind is a blank or a comment.
abbrev pub Stands : Option TokenKind → List ℕ → List ℕ → Type 0
Stands None bytes behind = IsBlank bytes ⊎ (IsLineComment bytes ⊎ IsBlockComment bytes)
Stands (Some Word) bytes behind = IsRunOf is_word_byte bytes
Stands (Some Half) bytes behind = (bytes ≡ 49 ∷ 47 ∷ 50 ∷ []) × IsFalse (is_word_byte (slice_index behind 0))
Stands (Some Text) bytes behind =
    (inside : List ℕ) × (bytes ≡ 34 ∷ inside ++ 34 ∷ []) × IsTrue (list_all is_text_byte inside)
Stands (Some Directive) bytes behind = (name : List ℕ) × (bytes ≡ 37 ∷ name) × IsRunOf is_letter name
Stands (Some Parts) bytes behind = bytes ≡ 37 ∷ 37 ∷ []
Stands (Some Punct) bytes behind = IsOneOf punctuations bytes

pub record Piece : Type 0 where
  pub kind : Option TokenKind
  pub bytes : List ℕ

-- the piece can stand in front of `behind`, and no longer one can stand at its place
pub record Fits (p : Piece) (behind : List ℕ) : Type 0 where
  pub stands : Stands p.kind p.bytes behind
  pub longest : (kind : Option TokenKind) (bytes rest : List ℕ) → bytes ++ rest ≡ p.bytes ++ behind
      → Stands kind bytes rest → length bytes ≤ length p.bytes

-- the pieces in a row
abbrev pub joined_pieces : List Piece → List ℕ
joined_pieces pieces = flat_map (λ p. p.bytes) pieces

-- each of the pieces fits in front of those behind it, and of `rest`
abbrev pub AllFit : List Piece → List ℕ → Type 0
AllFit [] rest = ⊤
AllFit (p ∷ ps) rest = Fits p (joined_pieces ps ++ rest) × AllFit ps rest

-- the token of a piece's span, if it is one
abbrev pub placed_one : Option TokenKind → ℕ → ℕ → List Token
placed_one None start end = []
placed_one (Some kind) start end = record { kind = kind; start = start; end = end } ∷ []

-- the tokens among the pieces, where the first piece begins at this place
abbrev pub placed : ℕ → List Piece → List Token
placed at [] = []
placed at (p ∷ ps) = placed_one p.kind at (at + length p.bytes) ++ placed (at + length p.bytes) ps

-- a block comment or a string begins, and ends before it is whole: the string by the end of its line or of
-- the text
abbrev pub IsOpenComment : List ℕ → Type 0
IsOpenComment text = (inside : List ℕ) × (text ≡ 47 ∷ 42 ∷ inside) × (close_at inside ≡ None)

abbrev pub IsOpenString : List ℕ → Type 0
IsOpenString text =
    (inside behind : List ℕ) × (text ≡ 34 ∷ inside ++ behind) × IsTrue (list_all is_text_byte inside)
    × ((behind ≡ []) ⊎ (slice_index behind 0 ≡ 10))

abbrev pub IsOpen : List ℕ → Type 0
IsOpen text = IsOpenComment text ⊎ IsOpenString text

-- no piece can stand at the front of the text
abbrev pub NothingFits : List ℕ → Type 0
NothingFits text =
    (kind : Option TokenKind) (bytes rest : List ℕ) → bytes ++ rest ≡ text → Stands kind bytes rest → ⊥

-- A text is refused where no piece can stand: as Unended if a comment or a string is open there, else for a
-- bad byte.
abbrev pub IsRefused : LexError → List ℕ → Type 0
IsRefused BadByte text = (0 < length text) × NothingFits text × ¬ IsOpen text
IsRefused Unended text = (0 < length text) × NothingFits text × IsOpen text
IsRefused Memory text = ⊥

-- What a text means: its tokens, or why it has none.
abbrev pub Reads : List ℕ → Result (List Token) LexError → Type 0
Reads text (Ok tokens) =
    (pieces : List Piece) × AllFit pieces [] × (joined_pieces pieces ≡ text) × (tokens ≡ placed 0 pieces)
Reads text (Err fault) =
    (pieces : List Piece) × (rest : List ℕ) × AllFit pieces rest × (joined_pieces pieces ++ rest ≡ text)
    × IsRefused fault rest

-- why `lex` gives no tokens
abbrev pub Cause : List ℕ → LexError → Type 0
Cause text BadByte = Reads text (Err BadByte)
Cause text Unended = Reads text (Err Unended)
Cause text Memory = ⊤

-- the spans are in order, from a place on and before an end, and none is empty
abbrev pub AreInOrder : ℕ → List Token → ℕ → Type 0
AreInOrder at [] end = at ≤ end
AreInOrder at (t ∷ ts) end = (at ≤ t.start) × (t.start < t.end) × AreInOrder t.end ts end
