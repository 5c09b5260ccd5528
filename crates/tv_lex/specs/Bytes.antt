-- Texts: how long one may be, and classes of its bytes.
use Rattle.std.specs.Prelude.{ℕ, Bool, ◌&&◌, ◌||◌, not, ◌==◌, nat_le}
use Rattle.std.specs.Char.{is_ascii_alphabetic, is_ascii_alphanumeric}

-- the greatest number of bytes of a text that is cut into tokens
abbrev pub longest_text : ℕ
longest_text = 67108864

-- space, tab, carriage return, line feed
abbrev pub is_blank : ℕ → Bool
is_blank b = b == 32 || (b == 9 || (b == 13 || b == 10))

-- a letter, a digit or `_`
abbrev pub is_word_byte : ℕ → Bool
is_word_byte b = is_ascii_alphanumeric b || b == 95

abbrev pub is_letter : ℕ → Bool
is_letter b = is_ascii_alphabetic b

-- what may stand between the quotes of a string: from space to `~`, without `"`
abbrev pub is_text_byte : ℕ → Bool
is_text_byte b = (nat_le 32 b && nat_le b 126) && not (b == 34)

-- anything but a line feed
abbrev pub stays_on_line : ℕ → Bool
stays_on_line b = not (b == 10)
