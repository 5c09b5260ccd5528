-- The larger of two truth values.
use Rattle.std.proofs.Common.{ℕ, ◌≡◌, ◌≢◌, ◌<◌, ◌≤◌, ◌+◌, ◌⊎◌, ◌∙◌, List, length, get_or, take, inl, inr}
use Rattle.std.proofs.Common.{refl, sym, ap, eq-eqb, arith}
use Rattle.std.proofs.lemmas.Bool.{cases_eq, cases_lt, ne_eqb}
use Rattle.std.proofs.lemmas.List.{get_or_past, get_or-take, length-take-le}
use Rattle.tv_kleene.specs.declared.K3.{K3}
use Rattle.tv_kleene.specs.declared.K3.TheVariants.{No, Half, Yes}
use Rattle.tv_kleene.specs.Kleene.{larger_of}
use Rattle.tv_work.specs.Told.{IsRaised}

pub larger-self : (a : K3) → larger_of a a ≡ a
larger-self No = refl
larger-self Half = refl
larger-self Yes = refl

-- and above both
pub larger-above_left : (a b : K3) → larger_of a (larger_of a b) ≡ larger_of a b
larger-above_left No b = refl
larger-above_left Half No = refl
larger-above_left Half Half = refl
larger-above_left Half Yes = refl
larger-above_left Yes b = refl

pub larger-above_right : (a b : K3) → larger_of b (larger_of a b) ≡ larger_of a b
larger-above_right No No = refl
larger-above_right No Half = refl
larger-above_right No Yes = refl
larger-above_right Half No = refl
larger-above_right Half Half = refl
larger-above_right Half Yes = refl
larger-above_right Yes No = refl
larger-above_right Yes Half = refl
larger-above_right Yes Yes = refl

pub larger-trans : (a b c : K3) → larger_of a b ≡ b → larger_of b c ≡ c → larger_of a c ≡ c
larger-trans No b c low high = refl
larger-trans Half No c low high = absurd cc
larger-trans Half Half c low high = high
larger-trans Half Yes Yes low high = refl
larger-trans Half Yes Half low high = refl
larger-trans Half Yes No low high = absurd cc
larger-trans Yes Yes c low high = high
larger-trans Yes No c low high = absurd cc
larger-trans Yes Half c low high = absurd cc

-- values that are above each other are equal
pub larger-both : (a b : K3) → larger_of a b ≡ b → larger_of b a ≡ a → a ≡ b
larger-both No No ab ba = refl
larger-both No Half ab ba = sym ba
larger-both No Yes ab ba = sym ba
larger-both Half No ab ba = ab
larger-both Half Half ab ba = refl
larger-both Half Yes ab ba = sym ba
larger-both Yes No ab ba = ab
larger-both Yes Half ab ba = ab
larger-both Yes Yes ab ba = refl

-- what is above a value that isn't No isn't either
pub larger-some : (a b : K3) → larger_of a b ≡ b → a ≢ No → b ≢ No
larger-some No b e some = absurd (some refl)
larger-some Half No e some = λ n. some e
larger-some Half Half e some = some
larger-some Half Yes e some = λ n. absurd cc
larger-some Yes b e some = λ n. some (e ∙ n)

-- the first values are told beside those before
abbrev pub AreRaisedTo : (number : ℕ) → (values old new : List K3) → Type 0
AreRaisedTo number values old new = (n : ℕ) → get_or new n No
    ≡ larger_of (get_or (take number values) n No) (get_or old n No)

-- and one more
pub raised-next : (values old row new : List K3) (number : ℕ) → number < length values
    → IsRaised number (get_or values number No) row new → AreRaisedTo number values old row
    → AreRaisedTo (number + 1) values old new
raised-next values old row new number within raised before n = by (cases_eq n number)
  where
    taken : length (take number values) ≡ number
    taken = length-take-le number values (omega (arith, within))

    here : n ≡ number → get_or (take (number + 1) values) n No ≡ get_or values number No
    here same = get_or-take (number + 1) values n No (omega (arith, same)) ∙ ap (λ m. get_or values m No) same

    read : n ≡ number → get_or row n No ≡ get_or old n No
    read same = before n
        ∙ ap (λ k. larger_of k (get_or old n No))
        (get_or_past (take number values) n No (omega (arith, same, taken)))

    beside : (n < number) ⊎ (number ≤ n) → n ≢ number
        → get_or (take number values) n No ≡ get_or (take (number + 1) values) n No
    beside (inl lt) apart =
        get_or-take number values n No lt ∙ sym (get_or-take (number + 1) values n No (omega (arith, lt)))
    beside (inr past) apart =
        get_or_past (take number values) n No (omega (arith, past, taken))
        ∙ sym (get_or_past (take (number + 1) values) n No
        (omega (arith, past, apart, length-take-le (number + 1) values (omega (arith, within)))))

    by : (n ≡ number) ⊎ (n ≢ number)
        → get_or new n No ≡ larger_of (get_or (take (number + 1) values) n No) (get_or old n No)
    by (inl same) = raised n ∙ rw (eq-eqb n number same, read same, here same) refl
    by (inr apart) =
        raised n
        ∙ rw (ne_eqb n number apart)
        (before n ∙ ap (λ k. larger_of k (get_or old n No)) (beside (cases_lt n number) apart))
