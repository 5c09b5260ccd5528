-- Places in a text, as its readers count them: lines and columns.
use Rattle.std.specs.Prelude.{◌≡◌, ℕ, ◌+◌, List, [], ◌∷◌, ◌==◌, ◌⊎◌, Any, Option, IfSome, length, take}
use Rattle.std.specs.List.{count_by, suffix_len}
use Rattle.tv_lex.specs.Bytes.{stays_on_line}
use Rattle.tv_lex.specs.declared.token.Token.{Token}
use Rattle.tv_lex.specs.declared.token.Place.{Place}

-- The place of the byte at an index, or of the end of the text. The line is one more than the number of line
-- feeds before it, the column one more than the number of bytes between the last of these, or the start of
-- the text, and it.
abbrev pub place_at : List ℕ → ℕ → Place
place_at text at =
    record {
      line = count_by (λ b. b == 10) (take at text) + 1;
      column = suffix_len stays_on_line (take at text) + 1;
    }

-- the place is that of the start of one of the tokens, or of the end of the text
abbrev pub IsTokenPlace : List ℕ → List Token → Place → Type 0
IsTokenPlace text tokens place =
    Any (λ t. place ≡ place_at text t.start) tokens ⊎ (place ≡ place_at text (length text))

-- where an error of a reader tells a place, it is that of the start of one of the tokens, or of the end of
-- the text
abbrev pub StopsAtToken : {E : Type 0} → (E → Option Place) → List ℕ → List Token → E → Type 0
StopsAtToken told text tokens error = IfSome (told error) (IsTokenPlace text tokens)

-- the place of the first of these tokens, or of the end of the text where there are none
abbrev pub first_place : List ℕ → List Token → Place
first_place text [] = place_at text (length text)
first_place text (t ∷ ts) = place_at text t.start
