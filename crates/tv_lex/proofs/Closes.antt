-- Steps of a search for `*/`.
use Rattle.std.proofs.Common.{◌≡◌, ℕ, ◌+◌, ◌<◌, ◌≤◌, List, Option, Some, None, cond, ◌&&◌, eqb, length}
use Rattle.std.proofs.Common.{get_or, drop, ap, refl, ◌∙◌, add-zero, zero-add, arith, get_or-drop}
use Rattle.std.specs.Option.{option_map}
use Rattle.std.proofs.lemmas.List.{drop_more, drop_all}
use Rattle.std.proofs.lemmas.Bool.{ne_eqb, and_left, and_right}
use Rattle.tv_lex.specs.Pieces.{close_at}

-- i places further on
abbrev pub shifted : ℕ → Option ℕ → Option ℕ
shifted i o = option_map (λ n. n + i) o

shifted-zero : (o : Option ℕ) → shifted 0 o ≡ o
shifted-zero None = refl
shifted-zero (Some n) = ap Some (add-zero n)

shifted-shifted : (i : ℕ) (o : Option ℕ) → shifted i (shifted 1 o) ≡ shifted (i + 1) o
shifted-shifted i None = refl
shifted-shifted i (Some n) = let e : n + 1 + i ≡ n + (i + 1) = omega arith in ap Some e

close_at-drop : (xs : List ℕ) (i : ℕ) → i < length xs → close_at (drop i xs) ≡ cond (eqb (get_or xs i 0) 42 && eqb (get_or xs (i + 1) 0) 47) (Some 0) (shifted 1 (close_at (drop (i + 1) xs)))
close_at-drop xs i h =
    let next : get_or (drop (i + 1) xs) 0 0 ≡ get_or xs (i + 1) 0 = get_or-drop (i + 1) xs 0 0 ∙ ap (λ k. get_or xs k 0) (add-zero (i + 1)) in
    ap close_at (drop_more xs i 0 h) ∙ ap (λ b. cond (eqb (get_or xs i 0) 42 && eqb b 47) (Some 0) (shifted 1 (close_at (drop (i + 1) xs)))) next

-- at the beginning of the search
pub shifted_start : (xs : List ℕ) → shifted 0 (close_at (drop 0 xs)) ≡ close_at xs
shifted_start xs = shifted-zero (close_at xs)

-- no `*/` stands here
pub shifted_more_other : (xs : List ℕ) (i : ℕ) → i < length xs → (get_or xs i 0 ≡ 42 → ⊥) → shifted i (close_at (drop i xs)) ≡ shifted (i + 1) (close_at (drop (i + 1) xs))
shifted_more_other xs i h e =
    ap (shifted i) (close_at-drop xs i h ∙ ap (λ b. cond b (Some 0) (shifted 1 (close_at (drop (i + 1) xs)))) (and_left _ _ (ne_eqb _ _ e))) ∙ shifted-shifted i (close_at (drop (i + 1) xs))

pub shifted_more_star : (xs : List ℕ) (i : ℕ) → i < length xs → (get_or xs (i + 1) 0 ≡ 47 → ⊥) → shifted i (close_at (drop i xs)) ≡ shifted (i + 1) (close_at (drop (i + 1) xs))
shifted_more_star xs i h e =
    ap (shifted i) (close_at-drop xs i h ∙ ap (λ b. cond b (Some 0) (shifted 1 (close_at (drop (i + 1) xs)))) (and_right _ _ (ne_eqb _ _ e))) ∙ shifted-shifted i (close_at (drop (i + 1) xs))

-- one stands here
pub shifted_found : (xs : List ℕ) (i : ℕ) → i < length xs → get_or xs i 0 ≡ 42 → get_or xs (i + 1) 0 ≡ 47 → shifted i (close_at (drop i xs)) ≡ Some i
shifted_found xs i h a b =
    ap (shifted i) (close_at-drop xs i h ∙ (λ k. cond (eqb (a k) 42 && eqb (b k) 47) (Some 0) (shifted 1 (close_at (drop (i + 1) xs))))) ∙ ap Some (zero-add i)

pub shifted_end : (xs : List ℕ) (i : ℕ) → length xs ≤ i → shifted i (close_at (drop i xs)) ≡ None
shifted_end xs i h = ap (λ ys. shifted i (close_at ys)) (drop_all i xs h)

pub ruleset close_steps = (shifted_start, shifted_more_other, shifted_more_star, shifted_found, shifted_end)
