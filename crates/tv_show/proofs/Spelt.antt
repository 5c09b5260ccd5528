-- The bytes of names and numbers.
use Rattle.std.proofs.Common.{◌≡◌, ℕ, suc, ◌<◌, ◌+◌, ◌%◌, ◌^◌, List, [], ◌∷◌, ◌++◌, refl, sym, subst}
use Rattle.std.proofs.Common.{◌⊎◌, inl, inr, arith}
use Rattle.std.specs.Prelude.{codes, decimal, All}
use Rattle.std.specs.List.{join_with_byte}
use Rattle.std.proofs.lemmas.Fmt.{decimal_by_steps}
use Rattle.tv_model.specs.Spelling.{IsIdentifier, IsLetter, IsDigit, IsName}
use Rattle.tv_show.proofs.Parted.{FreeOf, IsFull, free_append, full_append}

-- a byte that stands in no name and no number
abbrev pub IsOther : ℕ → Type 0
IsOther c = ((c < 44) ⊎ (c ≡ 45)) ⊎ (c ≡ 63)

other_byte : (b c : ℕ) → IsOther c → (IsLetter b ⊎ IsDigit b ⊎ (b ≡ 95)) → b ≡ c → ⊥
other_byte b c (inl (inl h)) (inl (inl l)) same = omega (arith, h, l.0, same)
other_byte b c (inl (inl h)) (inl (inr l)) same = omega (arith, h, l.0, same)
other_byte b c (inl (inl h)) (inr (inl d)) same = omega (arith, h, d.0, same)
other_byte b c (inl (inl h)) (inr (inr u)) same = omega (arith, h, u, same)
other_byte b c (inl (inr h)) (inl (inl l)) same = omega (arith, h, l.0, same)
other_byte b c (inl (inr h)) (inl (inr l)) same = omega (arith, h, l.0, same)
other_byte b c (inl (inr h)) (inr (inl d)) same = omega (arith, h, d.0, same)
other_byte b c (inl (inr h)) (inr (inr u)) same = omega (arith, h, u, same)
other_byte b c (inr h) (inl (inl l)) same = omega (arith, h, l.0, same)
other_byte b c (inr h) (inl (inr l)) same = omega (arith, h, l.0, same)
other_byte b c (inr h) (inr (inl d)) same = omega (arith, h, d.1, same)
other_byte b c (inr h) (inr (inr u)) same = omega (arith, h, u, same)

other_mark : (b c : ℕ) → IsOther c → ((b ≡ 44) ⊎ ((b ≡ 91) ⊎ (b ≡ 93))) → b ≡ c → ⊥
other_mark b c (inl (inl h)) (inl m) same = omega (arith, h, m, same)
other_mark b c (inl (inl h)) (inr (inl m)) same = omega (arith, h, m, same)
other_mark b c (inl (inl h)) (inr (inr m)) same = omega (arith, h, m, same)
other_mark b c (inl (inr h)) (inl m) same = omega (arith, h, m, same)
other_mark b c (inl (inr h)) (inr (inl m)) same = omega (arith, h, m, same)
other_mark b c (inl (inr h)) (inr (inr m)) same = omega (arith, h, m, same)
other_mark b c (inr h) (inl m) same = omega (arith, h, m, same)
other_mark b c (inr h) (inr (inl m)) same = omega (arith, h, m, same)
other_mark b c (inr h) (inr (inr m)) same = omega (arith, h, m, same)

bytes_free : (c : ℕ) → IsOther c → (w : List ℕ) → All (λ b. IsLetter b ⊎ IsDigit b ⊎ (b ≡ 95)) w → FreeOf c w
bytes_free c other [] all = tt
bytes_free c other (b ∷ w) all = (other_byte b c other (all 0 b (omega arith)), bytes_free c other w (λ k d lt. all (suc k) d (omega (arith, lt))))

word_free : (c : ℕ) → IsOther c → (w : List ℕ) → IsIdentifier w → FreeOf c w
word_free c other w is = bytes_free c other w is.0.1

inner_free : (c : ℕ) → IsOther c → (ws : List (List ℕ)) → All IsIdentifier ws → FreeOf c (join_with_byte 44 ws)
inner_free c other [] all = tt
inner_free c other (w ∷ []) all = word_free c other w (all 0 w (omega arith))
inner_free c other (w ∷ v ∷ ws) all =
    free_append (λ b. b ≡ c) w (44 ∷ join_with_byte 44 (v ∷ ws)) (word_free c other w (all 0 w (omega arith)))
    (other_mark 44 c other (inl refl), inner_free c other (v ∷ ws) (λ k d lt. all (suc k) d (omega (arith, lt))))

pub name_free : (c : ℕ) → IsOther c → (name : List ℕ) → IsName name → FreeOf c name
name_free c other name (inl is) = word_free c other name is
name_free c other name (inr b) =
    subst (FreeOf c) (sym b.5)
    (free_append (λ x. x ≡ c) ((b.0 ++ codes "[") ++ join_with_byte 44 b.1) (codes "]")
    (free_append (λ x. x ≡ c) (b.0 ++ codes "[") (join_with_byte 44 b.1)
    (free_append (λ x. x ≡ c) b.0 (codes "[") (word_free c other b.0 b.2) (other_mark 91 c other (inr (inl refl)), tt))
    (inner_free c other b.1 b.4))
    (other_mark 93 c other (inr (inr refl)), tt))

full_word : (w : List ℕ) → IsIdentifier w → IsFull w
full_word [] is = let some = is.0.0 in absurd (omega (arith, some))
full_word (b ∷ w) is = tt

pub name_full : (name : List ℕ) → IsName name → IsFull name
name_full name (inl is) = full_word name is
name_full name (inr b) = subst IsFull (sym b.5)
    (full_append ((b.0 ++ codes "[") ++ join_with_byte 44 b.1) (codes "]")
    (full_append (b.0 ++ codes "[") (join_with_byte 44 b.1) (full_append b.0 (codes "[") (full_word b.0 b.2))))

digit_other : (c n : ℕ) → IsOther c → n < 10 → 48 + n ≡ c → ⊥
digit_other c n (inl (inl h)) lt same = omega (arith, h, same)
digit_other c n (inl (inr h)) lt same = omega (arith, h, same)
digit_other c n (inr h) lt same = omega (arith, h, lt, same)

pub decimal_free : (c : ℕ) → IsOther c → (u : ℕ) → u < 2 ^ 64 → FreeOf c (decimal u)
decimal_free c other u small =
    decimal_by_steps (λ n ds. FreeOf c ds) (λ n lt. (digit_other c n other lt, tt))
    (λ n ds ge all. free_append (λ b. b ≡ c) ds ((48 + n % 10) ∷ []) all (digit_other c (n % 10) other (last n), tt))
    u small
  where
    last : (n : ℕ) → n % 10 < 10
    last n = omega arith
