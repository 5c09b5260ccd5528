-- The lines of a file, and the include lines among them.
use Rattle.std.specs.Prelude.{◌≡◌, ℕ, ◌-◌, ◌<◌, List, [], ◌∷◌, ◌++◌, Bool, true, false, not, if◌then◌else◌}
use Rattle.std.specs.Prelude.{◌&&◌, ◌||◌, ◌==◌, nat_eq, nat_lt, Option, Some, None, length, take, drop}
use Rattle.std.specs.Prelude.{slice_index, IsTrue}
use Rattle.std.specs.List.{prefix_len, suffix_len, starts_with, fold, list_all}
use Rattle.std.specs.Str.{is_utf8, IsUtf8}
use Rattle.tv_lex.specs.Pieces.{IsOneOf}
use Rattle.tv_lex.specs.declared.include.Scan.{Scan}
use Rattle.tv_lex.specs.declared.include.Scan.TheVariants.{Code, Slash, LineComment, BlockComment, Star}
use Rattle.tv_lex.specs.declared.include.Scan.TheVariants.{Quoted}
use Rattle.tv_lex.specs.Options.{◌>>=◌}

-- the byte in front of a line
abbrev pub onto : ℕ → List (List ℕ) → List (List ℕ)
onto b [] = (b ∷ []) ∷ []
onto b (line ∷ lines) = (b ∷ line) ∷ lines

-- a text cut behind each line feed
abbrev pub lines_of : List ℕ → List (List ℕ)
lines_of [] = []
lines_of (b ∷ bs) = if b == 10 then (10 ∷ []) ∷ lines_of bs else onto b (lines_of bs)

-- ---- block comments over the lines of a file, as an automaton

-- behind one more byte
abbrev pub next_scan : Scan → ℕ → Scan
next_scan Code b = if b == 47 then Slash else (if b == 34 then Quoted else Code)
next_scan Slash b =
    if b == 47 then LineComment else (if b == 42 then BlockComment else (if b == 34 then Quoted else Code))
next_scan LineComment b = LineComment
next_scan BlockComment b = if b == 42 then Star else BlockComment
next_scan Star b = if b == 47 then Code else (if b == 42 then Star else BlockComment)
next_scan Quoted b = if b == 34 then Code else Quoted

-- a line begins inside a block comment or outside of everything
abbrev pub scan_start : Bool → Scan
scan_start true = BlockComment
scan_start false = Code

abbrev pub is_in_block : Scan → Bool
is_in_block Code = false
is_in_block Slash = false
is_in_block LineComment = false
is_in_block BlockComment = true
is_in_block Star = true
is_in_block Quoted = false

-- whether the line behind this one begins inside a block comment, where it is told whether this one does
abbrev pub is_open_after : Bool → List ℕ → Bool
is_open_after inside line = is_in_block (fold next_scan (scan_start inside) line)

-- ---- include lines

abbrev pub is_gap : ℕ → Bool
is_gap b = b == 32 || b == 9

-- the text behind its leading spaces and tabs
abbrev pub without_gaps : List ℕ → List ℕ
without_gaps text = drop (prefix_len is_gap text) text

-- what stands behind the mark, where the text begins with it
abbrev pub behind_mark : List ℕ → List ℕ → Option (List ℕ)
behind_mark mark text = if starts_with nat_eq text mark then Some (drop (length mark) text) else None

-- `#` is the first byte other than a space or a tab
abbrev pub is_include : List ℕ → Bool
is_include line = slice_index (without_gaps line) 0 == 35

-- a line is an include line, where it is told whether it begins inside a block comment
abbrev pub includes : Bool → List ℕ → Bool
includes inside line = not inside && is_include line

-- nothing, or a line feed
abbrev pub is_feed : List ℕ → Bool
is_feed rest = length rest == 0 || (length rest == 1 && slice_index rest 0 == 10)

-- nothing, or a carriage return, and then the end of the line
abbrev pub ends_line : List ℕ → Bool
ends_line text = is_feed (if slice_index text 0 == 13 then drop 1 text else text)

abbrev pub is_not_quote : ℕ → Bool
is_not_quote b = not (b == 34)

-- the bytes, if they are UTF-8
abbrev pub text_if : List ℕ → Option (List ℕ)
text_if bytes = if is_utf8 bytes then Some bytes else None

-- the name, if it may stand in front of this rest of a line
abbrev pub checked_name : List ℕ → List ℕ → Option (List ℕ)
checked_name name rest =
    if nat_lt 0 (length name) && ends_line (without_gaps rest) then text_if name else None

-- `include`
abbrev pub include_word : List ℕ
include_word = 105 ∷ 110 ∷ 99 ∷ 108 ∷ 117 ∷ 100 ∷ 101 ∷ []

-- The name in an include line: `#`, `include` and the name in quotes, with spaces and tabs between and around
-- them, then at most a carriage return. The name has at least one byte and is UTF-8.
unfoldable pub include_name : List ℕ → Option (List ℕ)
include_name line = do
  word ← behind_mark (35 ∷ []) (without_gaps line)
  quote ← behind_mark include_word (without_gaps word)
  quoted ← behind_mark (34 ∷ []) (without_gaps quote)
  rest ← behind_mark (34 ∷ []) (drop (prefix_len is_not_quote quoted) quoted)
  checked_name (take (prefix_len is_not_quote quoted) quoted) rest

-- The form of an include line with this name: spaces and tabs stand in front of `#`, behind it, behind
-- `include` and behind the name in its quotes, and the line ends there, maybe with a carriage return.
pub record IsIncludeLine (line name : List ℕ) : Type 0 where
  pub indent : List ℕ
  pub before_word : List ℕ
  pub before_name : List ℕ
  pub behind_name : List ℕ
  pub end : List ℕ
  pub spelled : line ≡ indent
      ++ (35 ∷ before_word ++ (include_word ++ (before_name ++ (34 ∷ name ++ (34 ∷ behind_name ++ end)))))
  pub gaps : IsTrue (list_all is_gap indent) × IsTrue (list_all is_gap before_word)
      × IsTrue (list_all is_gap before_name) × IsTrue (list_all is_gap behind_name)
  pub ended : IsOneOf ([] ∷ (13 ∷ []) ∷ (10 ∷ []) ∷ (13 ∷ 10 ∷ []) ∷ []) end
  pub named : 0 < length name
  pub unquoted : IsTrue (list_all is_not_quote name)
  pub text : IsUtf8 name

abbrev pub is_not_slash : ℕ → Bool
is_not_slash b = not (b == 47)

-- a name up to its last `/`, possibly nothing
abbrev pub folder_of : List ℕ → List ℕ
folder_of name = take (length name - suffix_len is_not_slash name) name

-- the name of the file that another file includes
abbrev pub inner_name : List ℕ → List ℕ → List ℕ
inner_name name written = if slice_index written 0 == 47 then written else folder_of name ++ written
