-- Words, numbers and strings in front of a text.
use Rattle.std.proofs.Common.{◌≡◌, ℕ, suc, ◌+◌, ◌<◌, ◌^◌, List, [], ◌∷◌, ◌++◌, Some, true, ◌||◌, eqb, length}
use Rattle.std.proofs.Common.{get_or, ap, sym, refl, ◌∙◌, subst, ◌⊎◌, inl, inr, arith, append_assoc}
use Rattle.std.specs.Prelude.{decimal, not, ◌&&◌, nat_le, ◌==◌}
use Rattle.std.specs.Char.{is_ascii_alphanumeric, is_ascii_digit}
use Rattle.std.specs.Int.{is_in_range}
use Rattle.std.specs.List.{list_all, prefix_len}
use Rattle.std.proofs.lemmas.Bool.{and_from, and_parts, or_left, or_right, le-leb, ne_eqb}
use Rattle.std.proofs.lemmas.Fmt.{decimal_nonempty}
use Rattle.std.proofs.lemmas.List.{length-append, get_or_at, append-nil}
use Rattle.tv_lex.specs.Bytes.{is_word_byte, is_text_byte}
use Rattle.tv_lex.specs.Front.{front, token, string_front}
use Rattle.tv_lex.specs.Pieces.{Piece, Fits, joined_pieces}
use Rattle.tv_lex.specs.Token.{SpecToken}
use Rattle.tv_lex.specs.declared.token.TokenKind.TheVariants as kind
use Rattle.tv_lex.proofs.Runs.{prefix_len-append-stop}
use Rattle.tv_lex.proofs.Taken.{Takes, front_takes, front-quote}
use Rattle.tv_model.specs.Spelling.{IsDigit, IsLetter, IsWord, IsText}
use Rattle.tv_phrases.specs.Reading.{taken}
use Rattle.tv_phrases.specs.Tokens.{first, number_item, text_item, unquoted}
use Rattle.tv_phrases.proofs.Numerals.{digits_written, number_written}
use Rattle.tv_lex.proofs.PieceTokens.{Lexes}
use Rattle.tv_tvs.proofs.Lexing.{IsWordText, word, word_first, space_first, feed_first}
use Rattle.tv_tvs.proofs.Spelled.{in_range}
use Rattle.tv_tvs.proofs.RoundTrip.{word_bytes}

-- ---- which bytes words have

digit_byte : (b : ℕ) → is_ascii_digit b ≡ true → is_word_byte b ≡ true
digit_byte b is =
    or_left (is_ascii_alphanumeric b) (eqb b 95)
    (or_left (is_in_range 48 57 b || is_in_range 65 90 b) (is_in_range 97 122 b) (or_left (is_in_range 48 57 b) (is_in_range 65 90 b) is))

digit_bytes : (w : List ℕ) → list_all is_ascii_digit w ≡ true → list_all is_word_byte w ≡ true
digit_bytes [] all = refl
digit_bytes (b ∷ w) all =
    let both = and_parts (is_ascii_digit b) (list_all is_ascii_digit w) all
    in and_from (is_word_byte b) (list_all is_word_byte w) (digit_byte b both.0) (digit_bytes w both.1)

pub number_word : (n : ℕ) → n < 2 ^ 32 → IsWordText (decimal n)
number_word n small = (decimal_nonempty n (omega (arith, small)), digit_bytes (decimal n) (digits_written n (decimal n) small refl))

name_byte : (b : ℕ) → (IsLetter b ⊎ IsDigit b ⊎ (b ≡ 95)) → is_word_byte b ≡ true
name_byte b (inl (inl h)) =
    or_left (is_ascii_alphanumeric b) (eqb b 95)
    (or_left (is_in_range 48 57 b || is_in_range 65 90 b) (is_in_range 97 122 b) (or_right (is_in_range 48 57 b) (is_in_range 65 90 b) (in_range 65 90 b h.0 h.1)))
name_byte b (inl (inr h)) =
    or_left (is_ascii_alphanumeric b) (eqb b 95)
    (or_right (is_in_range 48 57 b || is_in_range 65 90 b) (is_in_range 97 122 b) (in_range 97 122 b h.0 h.1))
name_byte b (inr (inl h)) = digit_byte b (in_range 48 57 b h.0 h.1)
name_byte b (inr (inr h)) = rw h refl

pub name_word : (w : List ℕ) → IsWord w → IsWordText w
name_word w is = (is.0, word_bytes w is.1)

-- ---- words with a blank or the end of the line behind them

pub spaced : (w rest : List ℕ) (ts : List SpecToken) → IsWordText w → Lexes rest ts → Lexes (w ++ 32 ∷ rest) (word w ∷ ts)
spaced w rest ts is l = word_first w (32 ∷ rest) ts is (refl, refl) (space_first rest ts l)

pub ended : (w rest : List ℕ) (ts : List SpecToken) → IsWordText w → Lexes rest ts → Lexes (w ++ 10 ∷ rest) (word w ∷ ts)
ended w rest ts is l = word_first w (10 ∷ rest) ts is (refl, refl) (feed_first rest ts l)

pub number_first : (n : ℕ) (ts : List SpecToken) → n < 2 ^ 32 → first number_item (word (decimal n) ∷ ts) ≡ taken n ts
unfolding first
number_first n ts small = rw (number_written n small) refl

-- ---- strings

abbrev pub quoted : List ℕ → List ℕ
quoted inside = 34 ∷ inside ++ 34 ∷ []

abbrev pub string : List ℕ → SpecToken
string inside = record { kind = kind.Text; bytes = quoted inside }

text_bytes : (w : List ℕ) → IsText w → list_all is_text_byte w ≡ true
text_bytes [] all = refl
text_bytes (b ∷ w) all =
    let one = all 0 0 (omega arith)
    in and_from (is_text_byte b) (list_all is_text_byte w)
    (and_from (nat_le 32 b && nat_le b 126) (not (b == 34)) (and_from (nat_le 32 b) (nat_le b 126) (le-leb 32 b one.0) (le-leb b 126 one.1)) (ap not (ne_eqb b 34 one.2)))
    (text_bytes w (λ k d lt. all (suc k) d (omega (arith, lt))))

string_front_is : (inside rest : List ℕ) → list_all is_text_byte inside ≡ true → front (quoted inside ++ rest) ≡ token kind.Text (length (quoted inside))
string_front_is inside rest all =
    let stop : prefix_len is_text_byte (inside ++ 34 ∷ rest) ≡ length inside = prefix_len-append-stop is_text_byte inside (34 ∷ rest) all refl
    in let quote : get_or (inside ++ 34 ∷ rest) (length inside) 0 ≡ 34 = get_or_at inside 34 rest 0 (length inside) refl
    in let size : length inside + 2 ≡ length (quoted inside) = let l = length-append inside (34 ∷ []) in omega (arith, l)
    in let same : string_front (inside ++ 34 ∷ rest) ≡ token kind.Text (length inside + 2) = rw (stop, quote) refl
    in front-quote ((inside ++ 34 ∷ []) ++ rest) ∙ ap string_front (append_assoc inside (34 ∷ []) rest) ∙ same ∙ ap (token kind.Text) size

pub string_first : (inside rest : List ℕ) (ts : List SpecToken) → IsText inside → Lexes rest ts → Lexes (quoted inside ++ rest) (string inside ∷ ts)
string_first inside rest ts is l =
    let all = text_bytes inside is
    in let front_is = string_front_is inside rest all
    in let piece : Piece = record { kind = Some kind.Text; bytes = quoted inside }
    in let fits : Fits piece rest = record {
      stands = (inside, refl, all);
      longest = λ other more behind same stands.
          let takes : Takes (token kind.Text (length (quoted inside))) other (length more) = subst (λ r. Takes r other (length more)) (ap front same ∙ front_is) (front_takes other more behind stands)
          in takes.0;
    }
    in let behind : rest ≡ joined_pieces l.pieces ++ [] = sym l.whole ∙ sym (append-nil (joined_pieces l.pieces))
    in record {
      pieces = piece ∷ l.pieces;
      fit = (subst (Fits piece) behind fits, l.fit);
      whole = ap (λ t. quoted inside ++ t) l.whole;
      are = ap (λ us. string inside ∷ us) l.are;
    }

pub text_first : (inside : List ℕ) (ts : List SpecToken) → first text_item (string inside ∷ ts) ≡ taken (unquoted (quoted inside)) ts
unfolding first
text_first inside ts = refl
