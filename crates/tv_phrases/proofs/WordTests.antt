-- The test of identifiers, on words, says what an identifier is.
use Rattle.std.proofs.Common.{◌≡◌, ℕ, zero, suc, ◌<◌, ◌≤◌, List, [], ◌∷◌, true, false, length, refl}
use Rattle.std.proofs.Common.{sym, subst, inl, inr, arith}
use Rattle.std.specs.Prelude.{codes, ◌⊎◌, ◌↔◌, ◌||◌, ◌==◌, not, slice_index, Contains}
use Rattle.std.specs.Int.{is_in_range}
use Rattle.std.specs.Char.{is_ascii_alphanumeric}
use Rattle.std.specs.List.{list_all, slice_index_or}
use Rattle.std.specs.Str.{bytes_eq}
use Rattle.std.proofs.lemmas.Bool.{and_parts, and_from, or_cases, cases_Bool, leb-true, le-leb, eqb-true}
use Rattle.std.proofs.lemmas.Bool.{eq-eqb, both_ways, not-true, not_from_false, or_left, or_right}
use Rattle.std.proofs.lemmas.List.Folds.{list_all_at}
use Rattle.std.proofs.lemmas.Slice.Eq.{bytes_eq-Decides}
use Rattle.tv_lex.specs.Bytes.{is_word_byte, is_letter}
use Rattle.tv_lex.specs.Pieces.{IsRunOf}
use Rattle.tv_model.specs.Spelling.{IsDigit, IsLetter, IsWord, IsIdentifier, reserved_words}
use Rattle.tv_phrases.specs.Tokens.{is_reserved, begins_name, is_identifier}

in_range : (lo hi b : ℕ) → is_in_range lo hi b ≡ true → (lo ≤ b) × (b ≤ hi)
in_range lo hi b e = let both = and_parts _ _ e in (leb-true lo b both.0, leb-true b hi both.1)

letter_is : (b : ℕ) → is_letter b ≡ true → IsLetter b
letter_is b e = elim (or_cases (is_in_range 65 90 b) (is_in_range 97 122 b) e) [ inl h ↦ inl (in_range 65 90 b h) | inr h ↦ inr (in_range 97 122 b h) ]

word_byte_is : (b : ℕ) → is_word_byte b ≡ true → IsLetter b ⊎ IsDigit b ⊎ (b ≡ 95)
word_byte_is b e = elim (or_cases (is_ascii_alphanumeric b) (b == 95) e) [
  | inl h ↦ elim (or_cases (is_in_range 48 57 b || is_in_range 65 90 b) (is_in_range 97 122 b) h) [
    | inl k ↦ elim (or_cases (is_in_range 48 57 b) (is_in_range 65 90 b) k) [ inl d ↦ inr (inl (in_range 48 57 b d)) | inr u ↦ inl (inl (in_range 65 90 b u)) ]
    | inr l ↦ inl (inr (in_range 97 122 b l))
  ]
  | inr h ↦ inr (inr (eqb-true b 95 h))
]

word_is : (w : List ℕ) → IsRunOf is_word_byte w → IsWord w
word_is w run = (
  run.0,
  λ k d below. elim (cases_Bool (is_word_byte (slice_index_or w k d))) [
    | inl h ↦ word_byte_is (slice_index_or w k d) h
    | inr h ↦ absurd (both_ways (list_all is_word_byte w) (list_all_at is_word_byte w k d below h) run.1)
  ],
)

no_digit : (b : ℕ) → (is_letter b || b == 95) ≡ true → IsDigit b → ⊥
no_digit b e d = elim (or_cases (is_letter b) (b == 95) e) [
  | inl h ↦ elim (letter_is b h) [ inl u ↦ omega arith | inr l ↦ omega arith ]
  | inr h ↦ let same : b ≡ 95 = eqb-true b 95 h in omega arith
]

unlike : (w v : List ℕ) → is_reserved w ≡ false → is_reserved v ≡ true → v ≡ w → ⊥
unlike w v none some e = both_ways (is_reserved w) none (subst (λ (z : List ℕ). is_reserved z ≡ true) e some)

not_among : (w : List ℕ) → is_reserved w ≡ false → (k : ℕ) → k < 5 → slice_index_or reserved_words k w ≡ w → ⊥
not_among w none zero below e = unlike w (codes "E") none refl e
not_among w none (suc zero) below e = unlike w (codes "A") none refl e
not_among w none (suc (suc zero)) below e = unlike w (codes "TC") none refl e
not_among w none (suc (suc (suc zero))) below e = unlike w (codes "foreach") none refl e
not_among w none (suc (suc (suc (suc zero)))) below e = unlike w (codes "in") none refl e
not_among w none (suc (suc (suc (suc (suc k))))) below e = omega arith

-- a word that passes the test is an identifier
pub identifier_is : (w : List ℕ) → IsRunOf is_word_byte w → is_identifier w ≡ true → IsIdentifier w
identifier_is w run e =
    let both = and_parts (begins_name w) (not (is_reserved w)) e in
    (word_is w run, no_digit (slice_index w 0) both.0, λ c. not_among w (not-true (is_reserved w) both.1) c.0 c.1 c.2)

-- ---- the other way: an identifier passes the test

from_range : (lo hi b : ℕ) → lo ≤ b → b ≤ hi → is_in_range lo hi b ≡ true
from_range lo hi b low high = and_from _ _ (le-leb lo b low) (le-leb b hi high)

from_letter : (b : ℕ) → IsLetter b → is_letter b ≡ true
from_letter b (inl h) = or_left (is_in_range 65 90 b) (is_in_range 97 122 b) (from_range 65 90 b h.0 h.1)
from_letter b (inr h) = or_right (is_in_range 65 90 b) (is_in_range 97 122 b) (from_range 97 122 b h.0 h.1)

from_word_byte : (b : ℕ) → IsLetter b ⊎ IsDigit b ⊎ (b ≡ 95) → is_word_byte b ≡ true
from_word_byte b (inl (inl h)) = or_left (is_ascii_alphanumeric b) (b == 95) (or_left (is_in_range 48 57 b || is_in_range 65 90 b) (is_in_range 97 122 b) (or_right (is_in_range 48 57 b) (is_in_range 65 90 b) (from_range 65 90 b h.0 h.1)))
from_word_byte b (inl (inr h)) = or_left (is_ascii_alphanumeric b) (b == 95) (or_right (is_in_range 48 57 b || is_in_range 65 90 b) (is_in_range 97 122 b) (from_range 97 122 b h.0 h.1))
from_word_byte b (inr (inl h)) = or_left (is_ascii_alphanumeric b) (b == 95) (or_left (is_in_range 48 57 b || is_in_range 65 90 b) (is_in_range 97 122 b) (or_left (is_in_range 48 57 b) (is_in_range 65 90 b) (from_range 48 57 b h.0 h.1)))
from_word_byte b (inr (inr h)) = or_right (is_ascii_alphanumeric b) (b == 95) (eq-eqb b 95 h)

bytes_pass : (w : List ℕ) → ((k d : ℕ) → k < length w → IsLetter (slice_index_or w k d) ⊎ IsDigit (slice_index_or w k d) ⊎ (slice_index_or w k d ≡ 95)) → list_all is_word_byte w ≡ true
bytes_pass [] all = refl
bytes_pass (b ∷ bs) all = and_from (is_word_byte b) (list_all is_word_byte bs) (from_word_byte b (all 0 b (omega arith))) (bytes_pass bs (λ k d below. all (suc k) d (omega (arith, below))))

name_begins : (b : ℕ) → IsLetter b ⊎ IsDigit b ⊎ (b ≡ 95) → ¬ IsDigit b → (is_letter b || b == 95) ≡ true
name_begins b (inl h) none = or_left (is_letter b) (b == 95) (from_letter b h)
name_begins b (inr (inl h)) none = absurd (none h)
name_begins b (inr (inr h)) none = or_right (is_letter b) (b == 95) (eq-eqb b 95 h)

among : (w : List ℕ) → is_reserved w ≡ true → Contains reserved_words w
among w e = elim (or_cases _ (bytes_eq w (codes "in")) e) [
  | inr h ↦ at 4 (codes "in") h (omega arith) refl
  | inl e ↦ elim (or_cases _ (bytes_eq w (codes "foreach")) e) [
    | inr h ↦ at 3 (codes "foreach") h (omega arith) refl
    | inl e ↦ elim (or_cases _ (bytes_eq w (codes "TC")) e) [
      | inr h ↦ at 2 (codes "TC") h (omega arith) refl
      | inl e ↦ elim (or_cases (bytes_eq w (codes "E")) (bytes_eq w (codes "A")) e) [
        | inr h ↦ at 1 (codes "A") h (omega arith) refl
        | inl h ↦ at 0 (codes "E") h (omega arith) refl
      ]
    ]
  ]
]
  where
    at : (k : ℕ) (v : List ℕ) → bytes_eq w v ≡ true → k < 5 → slice_index_or reserved_words k v ≡ v → Contains reserved_words w
    at k v h below is = subst (Contains reserved_words) (sym ((bytes_eq-Decides w v).0 h)) (k, below, is)

unreserved : (w : List ℕ) → ¬ Contains reserved_words w → is_reserved w ≡ false
unreserved w none = elim (cases_Bool (is_reserved w)) [ inl h ↦ absurd (none (among w h)) | inr h ↦ h ]

-- an identifier is a word that passes the test
pub identifier_passes : (w : List ℕ) → IsIdentifier w → IsRunOf is_word_byte w × (is_identifier w ≡ true)
identifier_passes w is =
    let word : IsWord w = is.0 in
    let begins = name_begins (slice_index w 0) (word.1 0 0 word.0) is.1 in (
      (word.0, bytes_pass w word.1),
      and_from (begins_name w) (not (is_reserved w)) begins (not_from_false (is_reserved w) (unreserved w is.2)),
    )

pub identifiers_pass : (w : List ℕ) → (IsRunOf is_word_byte w × (is_identifier w ≡ true)) ↔ IsIdentifier w
identifiers_pass w = (λ h. identifier_is w h.0 h.1, identifier_passes w)
