-- Bits of a word that are taken from another.
use Rattle.std.proofs.Common.{ℕ, ◌≡◌, ◌<◌, ◌≤◌, ◌+◌, ◌-◌, ◌*◌, ◌/◌, ◌%◌, ◌^◌, ◌⊎◌, inl, inr, Bool, true}
use Rattle.std.proofs.Common.{false, not, ◌&&◌, ◌||◌, eqb, ltb, refl, sym, ap, ◌∙◌, add-zero, w64, arith}
use Rattle.std.proofs.lemmas.Bool.{lt-ltb, le-ltb}
use Rattle.std.proofs.lemmas.Nat.{pow_pos, shr-shr, shr_split, mod_below}
use Rattle.std.proofs.lemmas.Nat.Bits.{bit_at_cat_low, bit_at_cat_high}
use Rattle.std.specs.Prelude.{bit_and, bit_or}
use Rattle.std.specs.Int.{bit_not}
use Rattle.tv_row.specs.Bits.{bit}
use Rattle.tv_row.specs.BitLaws.{bit-and, bit-or, bit-not, bit-zero}

-- the bits of a number that is shifted within a word
bit_low : (n j : ℕ) → j < 64 → bit (n % 2 ^ 64) j ≡ bit n j
bit_low n j low =
    ap (λ x. eqb x 1) (sym (bit_at_cat_low (n / 2 ^ 64) 64 (n % 2 ^ 64) j low)) ∙ ap (λ m. bit m j) (shr_split n 64)

shl_before : (n k j : ℕ) → j < k → j < 64 → bit (n * 2 ^ k % 2 ^ 64) j ≡ false
shl_before n k j lt low =
    bit_low (n * 2 ^ k) j low ∙ ap (λ m. bit m j) (sym (add-zero (n * 2 ^ k))) ∙ ap (λ x. eqb x 1) (bit_at_cat_low n k 0 j lt)
    ∙ bit-zero j

shl_from : (n k j : ℕ) → k ≤ j → j < 64 → bit (n * 2 ^ k % 2 ^ 64) j ≡ bit n (j - k)
shl_from n k j le low =
    bit_low (n * 2 ^ k) j low ∙ ap (λ m. bit m j) (sym (add-zero (n * 2 ^ k)))
    ∙ ap (λ x. eqb x 1) (bit_at_cat_high n k 0 j (pow_pos k) le)

pub shr_bit : (n k i : ℕ) → bit (n / 2 ^ k) i ≡ bit n (k + i)
shr_bit n k i = ap (λ x. eqb (x % 2) 1) (shr-shr n k i)

taken : (a b : Bool) → ((a && not true) || (b && true)) ≡ b
taken false false = refl
taken false true = refl
taken true false = refl
taken true true = refl

kept : (a b : Bool) → ((a && not false) || (b && false)) ≡ a
kept false false = refl
kept false true = refl
kept true false = refl
kept true true = refl

left : (a : Bool) → ((a && not false) || false) ≡ a
left false = refl
left true = refl

module _ (word other to from count ones : ℕ) (ones_are : (j : ℕ) → j < 64 → bit ones j ≡ ltb j count) (room : to + count ≤ 64) where
  abbrev mask : ℕ
  mask = ones * 2 ^ to % 2 ^ 64

  abbrev moved : ℕ
  moved = bit_and (other / 2 ^ from) ones * 2 ^ to % 2 ^ 64

  abbrev new : ℕ
  new = bit_or (bit_and word (bit_not w64 mask)) moved

  new_bit : (j : ℕ) → j < 64 → bit new j ≡ ((bit word j && not (bit mask j)) || bit moved j)
  new_bit j low =
      bit-or (bit_and word (bit_not w64 mask)) moved j
      ∙ ap (λ b. b || bit moved j) (bit-and word (bit_not w64 mask) j
      ∙ ap (λ b. bit word j && b) (bit-not mask j (mod_below (ones * 2 ^ to) (2 ^ 64) (pow_pos 64)) low))

  mask_from : (j : ℕ) → to ≤ j → j < 64 → bit mask j ≡ ltb (j - to) count
  mask_from j le low = shl_from ones to j le low ∙ ones_are (j - to) (omega arith)

  moved_from : (j : ℕ) → to ≤ j → j < 64 → bit moved j ≡ (bit other (from + (j - to)) && ltb (j - to) count)
  moved_from j le low =
      shl_from (bit_and (other / 2 ^ from) ones) to j le low ∙ bit-and (other / 2 ^ from) ones (j - to)
      ∙ ap (λ b. bit (other / 2 ^ from) (j - to) && b) (ones_are (j - to) (omega arith))
      ∙ ap (λ b. b && ltb (j - to) count) (shr_bit other from (j - to))

  pub taken_bits : (i : ℕ) → i < count → bit new (to + i) ≡ bit other (from + i)
  taken_bits i lt =
      let low : to + i < 64 = omega arith
      in let e : to + i - to ≡ i = omega arith
      in let within : ltb (to + i - to) count ≡ true = lt-ltb (to + i - to) count (omega arith)
      in new_bit (to + i) low
      ∙ ap (λ b. (bit word (to + i) && not b) || bit moved (to + i)) (mask_from (to + i) (omega arith) low ∙ within)
      ∙ ap (λ b. (bit word (to + i) && not true) || b) (moved_from (to + i) (omega arith) low
      ∙ ap (λ b. bit other (from + (to + i - to)) && b) within)
      ∙ taken (bit word (to + i)) (bit other (from + (to + i - to)))
      ∙ ap (λ k. bit other (from + k)) e

  pub kept_bits : (j : ℕ) → j < 64 → (j < to) ⊎ (to + count ≤ j) → bit new j ≡ bit word j
  kept_bits j low (inl lt) =
      new_bit j low ∙ ap (λ b. (bit word j && not b) || bit moved j) (shl_before ones to j lt low)
      ∙ ap (λ b. (bit word j && not false) || b) (shl_before (bit_and (other / 2 ^ from) ones) to j lt low) ∙ left (bit word j)
  kept_bits j low (inr past) =
      let out : ltb (j - to) count ≡ false = le-ltb (j - to) count (omega arith)
      in new_bit j low
      ∙ ap (λ b. (bit word j && not b) || bit moved j) (mask_from j (omega arith) low ∙ out)
      ∙ ap (λ b. (bit word j && not false) || b) (moved_from j (omega arith) low
      ∙ ap (λ b. bit other (from + (j - to)) && b) out)
      ∙ kept (bit word j) (bit other (from + (j - to)))
