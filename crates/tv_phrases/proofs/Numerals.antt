-- Numbers as they are written.
use Rattle.std.proofs.Common.{◌≡◌, ℕ, zero, suc, ◌<◌, ◌^◌, List, Bool, true, false, Some, None, Option, Ok}
use Rattle.std.proofs.Common.{Err, Result, length, get_or, refl, sym, ◌∙◌, ap, subst, arith, rules}
use Rattle.std.specs.Prelude.{◌↔◌, ◌&&◌, ◌==◌, if◌then◌else◌, nat_lt, slice_index, decimal, IsUtf8}
use Rattle.std.specs.Char.{is_ascii_digit}
use Rattle.std.specs.List.{list_all}
use Rattle.std.specs.Option.{SomeIff}
use Rattle.std.specs.Result.{result_ok}
use Rattle.std.specs.Str.{bytes_eq}
use Rattle.std.specs.Str.Parse.{digits_value, ParsesUnsigned}
use Rattle.std.proofs.lemmas.Bool.{ltb-true, ltb-false, lt-ltb, eqb-true, eq-eqb, false≢true, and_parts}
use Rattle.std.proofs.lemmas.Fmt.{digits_decimal, digits_value-decimal, decimal-digits_value, first_decimal}
use Rattle.std.proofs.lemmas.Fmt.{decimal_digit, decimal_nonempty, IsAscii-from_digits}
use Rattle.std.proofs.lemmas.Option.{same_Some}
use Rattle.std.proofs.lemmas.Slice.Eq.{bytes_eq-Decides}
use Rattle.std.proofs.lemmas.Str.{IsUtf8-from_ascii}
use Rattle.std.proofs.lemmas.Str.Parse.{IsDigitsTest, IsNumeralModel, numerals_by_value, parse_digits}
use Rattle.tv_phrases.specs.Tokens.{number_in}

abbrev pub AreDigits : List ℕ → Type 0
AreDigits w = list_all is_ascii_digit w ≡ true

tests_digits : IsDigitsTest AreDigits
tests_digits = search rules

pub numerals : IsNumeralModel AreDigits (digits_value 10)
numerals = numerals_by_value AreDigits tests_digits

-- ---- what the definition gives

none_unless : (a b : Bool) (n : ℕ) → (a ≡ true → b ≡ true → ⊥) → (if a && b then Some n else None) ≡ None
none_unless true true n never = absurd (never refl refl)
none_unless true false n never = refl
none_unless false b n never = refl

-- nothing, where no number below 2 ^ 32 is written so
pub no_number : (w : List ℕ) → ((n : ℕ) → n < 2 ^ 32 → decimal n ≡ w → ⊥) → number_in w ≡ None
no_number w never =
    none_unless (nat_lt (digits_value 10 w) (2 ^ 32)) (bytes_eq (decimal (digits_value 10 w)) w) (digits_value 10 w)
    (λ small same. never (digits_value 10 w) (ltb-true _ _ small) ((bytes_eq-Decides (decimal (digits_value 10 w)) w).0 same))

-- the number that is written so
pub number_written : (n : ℕ) → n < 2 ^ 32 → number_in (decimal n) ≡ Some n
number_written n small =
    let value : digits_value 10 (decimal n) ≡ n = digits_value-decimal numerals n (omega (arith, small))
    in let same : bytes_eq (decimal n) (decimal n) ≡ true = (bytes_eq-Decides (decimal n) (decimal n)).1 refl
    in rw (value, lt-ltb n (2 ^ 32) small, same) refl

both_true : (a b : Bool) (v n : ℕ) → (if a && b then Some v else None) ≡ Some n → (a ≡ true) × (b ≡ true) × (v ≡ n)
both_true true true v n e = (refl, refl, same_Some v n e)
both_true true false v n e = absurd cc
both_true false b v n e = absurd cc

pub number_read : (w : List ℕ) (n : ℕ) → number_in w ≡ Some n → (w ≡ decimal n) × (n < 2 ^ 32)
number_read w n e =
    let v = digits_value 10 w
    in let parts = both_true (nat_lt v (2 ^ 32)) (bytes_eq (decimal v) w) v n e
    in let written : decimal v ≡ w = (bytes_eq-Decides (decimal v) w).0 parts.1
    in let small : v < 2 ^ 32 = ltb-true _ _ parts.0
    in (sym written ∙ ap decimal parts.2, omega (arith, small, parts.2))

pub numbers_are_decimal : (w : List ℕ) (n : ℕ) → (number_in w ≡ Some n) ↔ ((w ≡ decimal n) × (n < 2 ^ 32))
numbers_are_decimal w n = (number_read w n, λ is. subst (λ v. number_in v ≡ Some n) (sym is.0) (number_written n is.1))

-- ---- words that write none

pub digits_written : (n : ℕ) (w : List ℕ) → n < 2 ^ 32 → decimal n ≡ w → AreDigits w
digits_written n w small same = subst AreDigits same (digits_decimal numerals n (omega (arith, small)))

pub other_byte : (w : List ℕ) → list_all is_ascii_digit w ≡ false → number_in w ≡ None
other_byte w other = no_number w (λ n small same. false≢true (sym other ∙ digits_written n w small same))

unpadded : (n : ℕ) → n < 2 ^ 32 → get_or (decimal n) 0 0 ≡ 48 → 1 < length (decimal n) → ⊥
unpadded zero small first long =
    let one : length (decimal 0) ≡ 1 = ap length (decimal_digit 0 (omega arith))
    in omega (arith, long, one)
unpadded (suc n) small first long =
    let more = first_decimal (suc n) (omega arith) (omega (arith, small))
    in omega (arith, first, more)

abbrev pub is_padded : List ℕ → Bool
is_padded w = slice_index w 0 == 48 && nat_lt 1 (length w)

not_padded : (n : ℕ) → n < 2 ^ 32 → is_padded (decimal n) ≡ true → ⊥
not_padded n small padded =
    let parts = and_parts (slice_index (decimal n) 0 == 48) (nat_lt 1 (length (decimal n))) padded
    in unpadded n small (eqb-true _ _ parts.0) (ltb-true _ _ parts.1)

pub zero_in_front : (w : List ℕ) → is_padded w ≡ true → number_in w ≡ None
zero_in_front w padded = no_number w (λ n small same. not_padded n small (subst (λ v. is_padded v ≡ true) (sym same) padded))

-- ---- digits without a zero in front

then_false : (a b : Bool) → (a && b) ≡ false → a ≡ true → b ≡ false
then_false true b both left = both
then_false false b both left = absurd cc

lone : (w : List ℕ) → is_padded w ≡ false → 0 < length w → get_or w 0 0 ≡ 48 → length w ≡ 1
lone w plain some first =
    let short = ltb-false 1 (length w) (then_false (slice_index w 0 == 48) (nat_lt 1 (length w)) plain (eq-eqb _ _ first))
    in omega (arith, some, short)

pub value_written : (w : List ℕ) (o : Option ℕ) → AreDigits w → is_padded w ≡ false
    → SomeIff o ((0 < length w) × (digits_value 10 w < 2 ^ 32)) (digits_value 10 w) → o ≡ number_in w
value_written w None digits plain told =
    sym (no_number w (λ n small same.
    let value : digits_value 10 w ≡ n = ap (digits_value 10) (sym same) ∙ digits_value-decimal numerals n (omega (arith, small))
    in let some : 0 < length w = subst (λ v. 0 < length v) same (decimal_nonempty n (omega (arith, small)))
    in told (some, omega (arith, value, small))))
value_written w (Some x) digits plain told =
    let v = digits_value 10 w
    in let same : decimal v ≡ w = decimal-digits_value numerals w digits told.0.0 (lone w plain told.0.0) (omega (arith, told.0.1))
    in ap Some told.1 ∙ sym (subst (λ u. number_in u ≡ Some v) same (number_written v told.0.1))

-- ---- std's reading of digits

pub parsed : {E : Type 0} (w : List ℕ) (r : Result ℕ E) → AreDigits w → ParsesUnsigned 32 10 w r
    → SomeIff (result_ok r) ((0 < length w) × (digits_value 10 w < 2 ^ 32)) (digits_value 10 w)
parsed {E} w (Ok x) digits told = parse_digits numerals {E = E} 32 w (Ok x) told digits
parsed {E} w (Err e) digits told = parse_digits numerals {E = E} 32 w (Err e) told digits

pub digits_are_text : (w : List ℕ) → AreDigits w → IsUtf8 w
digits_are_text w digits = IsUtf8-from_ascii w (IsAscii-from_digits w (numerals.to w digits))
