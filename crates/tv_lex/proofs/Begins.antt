-- How often files are begun, by several readings after each other.
use Rattle.std.proofs.Common.{◌≡◌, ℕ, ◌+◌, ◌≤◌, min, Option, None, Some, arith, ap, sym, ◌∙◌}
use Rattle.tv_lex.specs.Gather.{BeginsBy, BeginsAtMost}
use Rattle.tv_outside.specs.Count.{count_max, counted}
use Rattle.tv_outside.specs.Told.{Held}

pub counted-counted : (a m n : ℕ) → counted (counted a m) n ≡ counted a (m + n)
counted-counted a m n = capped a m n count_max
  where
    capped : (a m n top : ℕ) → min (min (a + m) top + n) top ≡ min (a + (m + n)) top
    capped a m n top = omega arith

pub counted-le : (a n : ℕ) → counted a n ≤ count_max
counted-le a n = capped a n count_max
  where
    capped : (a n top : ℕ) → min (a + n) top ≤ top
    capped a n top = omega arith

pub counted-more : (a m n : ℕ) → m ≤ n → counted a m ≤ counted a n
counted-more a m n le = capped a m n count_max le
  where
    capped : (a m n top : ℕ) → m ≤ n → min (a + m) top ≤ min (a + n) top
    capped a m n top le = omega (arith, le)

pub counted-none : (a : ℕ) → a ≤ count_max → a ≡ counted a 0
counted-none a le = uncapped a count_max le
  where
    uncapped : (a top : ℕ) → a ≤ top → a ≡ min (a + 0) top
    uncapped a top le = omega (arith, le)

-- an exact count is one at most
pub begins_at_most : (told : Option Held) (times : Held → ℕ) (old new : ℕ) → BeginsBy told times old new
    → BeginsAtMost told times old new
begins_at_most None times old new h = tt
begins_at_most (Some held) times old new h = λ below_top. same new (counted old (times held)) (h below_top)
  where
    same : (a b : ℕ) → a ≡ b → a ≤ b
    same a b e = omega (arith, e)

-- at most so often, and so at most more often
pub begins_within : (told : Option Held) (times others : Held → ℕ) (old new : ℕ) → ((held : Held) → times held ≤ others held)
    → BeginsAtMost told times old new → BeginsAtMost told others old new
begins_within None times others old new few h = tt
begins_within (Some held) times others old new few h = λ below_top.
    chained new _ _ (h below_top) (counted-more old (times held) (others held) (few held))
  where
    chained : (a b c : ℕ) → a ≤ b → b ≤ c → a ≤ c
    chained a b c p q = omega (arith, p, q)

-- as often, said otherwise
pub begins_alike : (told : Option Held) (times others : Held → ℕ) (old new : ℕ) → ((held : Held) → others held ≡ times held)
    → BeginsBy told times old new → BeginsBy told others old new
begins_alike None times others old new same h = tt
begins_alike (Some held) times others old new same h = λ below_top. h below_top ∙ ap (counted old) (sym (same held))

pub once_begun : (told : Option Held) (old new : ℕ) → new ≡ counted old 1 → BeginsBy told (λ held. 1) old new
once_begun None old new h = tt
once_begun (Some held) old new h = λ below_top. h

pub never_begun : (told : Option Held) (old new : ℕ) → new ≡ old → BeginsBy told (λ held. 0) old new
never_begun None old new h = tt
never_begun (Some held) old new h = λ below_top. h ∙ counted-none old below_top

-- one file more
pub one_more : (told : Option Held) (times later : Held → ℕ) (old mid new : ℕ)
    → ((held : Held) → later held ≡ times held + 1) → BeginsBy told times old mid → new ≡ counted mid 1
    → BeginsBy told later old new
one_more None times later old mid new is before h = tt
one_more (Some held) times later old mid new is before h = λ below_top.
    h ∙ ap (λ k. counted k 1) (before below_top) ∙ counted-counted old (times held) 1 ∙ ap (counted old) (sym (is held))
