-- The longest front that passes a test, and the first `*/`, in a text that goes on.
use Rattle.std.proofs.Common.{◌≡◌, ℕ, zero, suc, ◌+◌, ◌≤◌, List, [], ◌∷◌, ◌++◌, Option, Some, None, Bool}
use Rattle.std.proofs.Common.{true, false, cond, ◌&&◌, eqb, length, take, ap, sym, refl, ◌∙◌, subst, inl, inr}
use Rattle.std.proofs.Common.{arith}
use Rattle.std.specs.List.{prefix_len, list_all}
use Rattle.std.specs.Option.{option_map}
use Rattle.std.proofs.lemmas.Bool.{and_parts, and_from, and_right, cases_Bool}
use Rattle.tv_lex.specs.Pieces.{close_at}

pub prefix_len-append-le : (p : ℕ → Bool) (xs ys : List ℕ) → list_all p xs ≡ true → length xs ≤ prefix_len p (xs ++ ys)
prefix_len-append-le p [] ys h = omega arith
prefix_len-append-le p (x ∷ xs) ys h =
    let both = and_parts (p x) (list_all p xs) h in
    let more : length xs ≤ prefix_len p (xs ++ ys) = prefix_len-append-le p xs ys both.1 in
    rw (both.0) (omega arith)

pub prefix_len-append-stop : (p : ℕ → Bool) (xs ys : List ℕ) → list_all p xs ≡ true → prefix_len p ys ≡ 0 → prefix_len p (xs ++ ys) ≡ length xs
prefix_len-append-stop p [] ys h stop = stop
prefix_len-append-stop p (x ∷ xs) ys h stop =
    let both = and_parts (p x) (list_all p xs) h in
    let more : prefix_len p (xs ++ ys) ≡ length xs = prefix_len-append-stop p xs ys both.1 stop in
    rw (both.0) (omega arith)

-- the longest front itself passes
pub list_all-take-prefix_len : (p : ℕ → Bool) (xs : List ℕ) → list_all p (take (prefix_len p xs) xs) ≡ true
list_all-take-prefix_len p [] = refl
list_all-take-prefix_len p (x ∷ xs) = elim (cases_Bool (p x)) [
  | inl e ↦
      let len : prefix_len p (x ∷ xs) ≡ suc (prefix_len p xs) = rw e (omega arith) in
      rw len (and_from (p x) _ e (list_all-take-prefix_len p xs))
  | inr e ↦
      let len : prefix_len p (x ∷ xs) ≡ zero = rw e refl in
      rw len refl
]

-- one place further on
pub option_map-suc : (o : Option ℕ) (n : ℕ) → option_map (λ m. m + 1) o ≡ Some n → (m : ℕ) × (o ≡ Some m) × (m + 1 ≡ n)
option_map-suc None n h = cc
option_map-suc (Some m) n h = (m, refl, cc)

-- the first `*/` stays the first, whatever follows it
pub close_at-append : (xs ys : List ℕ) (n : ℕ) → close_at xs ≡ Some n → close_at (xs ++ ys) ≡ Some n
close_at-append [] ys n h = cc
close_at-append (x ∷ []) ys n h =
    let none : close_at (x ∷ []) ≡ None = rw (and_right (eqb x 42) false refl) refl in
    cc
close_at-append (x ∷ y ∷ xs) ys n h = elim (cases_Bool (eqb x 42 && eqb y 47)) [
  | inl e ↦
      let found : close_at (x ∷ y ∷ xs) ≡ Some 0 = ap (λ b. cond b (Some 0) (option_map (λ n. n + 1) (close_at (y ∷ xs)))) e in
      let found_longer : close_at (x ∷ y ∷ xs ++ ys) ≡ Some 0 = ap (λ b. cond b (Some 0) (option_map (λ n. n + 1) (close_at (y ∷ (xs ++ ys))))) e in
      cc
  | inr e ↦
      let later : close_at (x ∷ y ∷ xs) ≡ option_map (λ n. n + 1) (close_at (y ∷ xs)) = ap (λ b. cond b (Some 0) (option_map (λ n. n + 1) (close_at (y ∷ xs)))) e in
      let later_longer : close_at (x ∷ y ∷ xs ++ ys) ≡ option_map (λ n. n + 1) (close_at (y ∷ (xs ++ ys))) = ap (λ b. cond b (Some 0) (option_map (λ n. n + 1) (close_at (y ∷ (xs ++ ys))))) e in
      let before = option_map-suc (close_at (y ∷ xs)) n (sym later ∙ h) in
      later_longer ∙ ap (option_map (λ n. n + 1)) (close_at-append (y ∷ xs) ys before.0 before.1) ∙ ap Some before.2
]

-- up to its end nothing changes
pub record ClosesAt (xs : List ℕ) (n : ℕ) : Type 0 where
  pub within : n + 2 ≤ length xs
  pub same : close_at (take (n + 2) xs) ≡ Some n

pub closes_at : (xs : List ℕ) (n : ℕ) → close_at xs ≡ Some n → ClosesAt xs n
closes_at [] n h = cc
closes_at (x ∷ []) n h =
    let none : close_at (x ∷ []) ≡ None = rw (and_right (eqb x 42) false refl) refl in
    cc
closes_at (x ∷ y ∷ xs) n h = elim (cases_Bool (eqb x 42 && eqb y 47)) [
  | inl e ↦
      let found : close_at (x ∷ y ∷ xs) ≡ Some 0 = ap (λ b. cond b (Some 0) (option_map (λ n. n + 1) (close_at (y ∷ xs)))) e in
      let zero_is : n ≡ 0 = cc in
      let found_short : close_at (x ∷ y ∷ []) ≡ Some 0 = ap (λ b. cond b (Some 0) (option_map (λ n. n + 1) (close_at (y ∷ [])))) e in
      subst (ClosesAt (x ∷ y ∷ xs)) (sym zero_is) (record { within = omega arith; same = found_short })
  | inr e ↦
      let later : close_at (x ∷ y ∷ xs) ≡ option_map (λ n. n + 1) (close_at (y ∷ xs)) = ap (λ b. cond b (Some 0) (option_map (λ n. n + 1) (close_at (y ∷ xs)))) e in
      let before = option_map-suc (close_at (y ∷ xs)) n (sym later ∙ h) in
      let inner = closes_at (y ∷ xs) before.0 before.1 in
      let cut : take (n + 2) (x ∷ y ∷ xs) ≡ x ∷ take (before.0 + 2) (y ∷ xs) = (let e : n + 2 ≡ suc (before.0 + 2) = omega (arith, before.2) in ap (λ k. take k (x ∷ y ∷ xs)) e) in
      let cut_again : take (before.0 + 2) (y ∷ xs) ≡ y ∷ take (before.0 + 1) xs = (let e : before.0 + 2 ≡ suc (before.0 + 1) = omega arith in ap (λ k. take k (y ∷ xs)) e) in
      let later_short : close_at (x ∷ y ∷ take (before.0 + 1) xs) ≡ option_map (λ n. n + 1) (close_at (y ∷ take (before.0 + 1) xs)) = ap (λ b. cond b (Some 0) (option_map (λ n. n + 1) (close_at (y ∷ take (before.0 + 1) xs)))) e in
      record {
        within = omega (arith, before.2, inner.within);
        same = ap close_at (cut ∙ ap (λ l. x ∷ l) cut_again) ∙ later_short ∙ ap (option_map (λ n. n + 1)) (ap close_at (sym cut_again) ∙ inner.same) ∙ ap Some before.2;
      }
]
