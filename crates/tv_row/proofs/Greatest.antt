-- The greatest and the least value of rows.
use Rattle.std.proofs.Common.{ℕ, ◌≡◌, ◌<◌, ◌+◌, ◌-◌, ◌*◌, ◌/◌, ◌%◌, zero, suc, List, [], ◌∷◌, ◌++◌, length}
use Rattle.std.proofs.Common.{map, get_or, take, replicate, refl, sym, ap, ◌∙◌, ⊎_elim, arith}
use Rattle.std.proofs.lemmas.Bool.{cases_lt}
use Rattle.std.proofs.lemmas.List.{ext_get_or, length-append, get_or_append_left, get_or-append_right}
use Rattle.std.proofs.lemmas.List.{take-map}
use Rattle.tv_kleene.proofs.Lattice.{larger-no}
use Rattle.tv_kleene.specs.declared.K3.{K3}
use Rattle.tv_kleene.specs.declared.K3.TheVariants.{No, Half, Yes}
use Rattle.tv_kleene.specs.Kleene.{smaller_of, larger_of, negation_of}
use Rattle.tv_row.specs.Bits.{padded, greatest_in, least_in}
use Rattle.tv_row.specs.Places.{AreWords, word_at, row_of}
use Rattle.tv_row.proofs.PlaceLaws.{length-row_of, get_or-row_of}

assoc : (a b c : K3) → larger_of a (larger_of b c) ≡ larger_of (larger_of a b) c
assoc No b c = refl
assoc Half No c = refl
assoc Half Half No = refl
assoc Half Half Half = refl
assoc Half Half Yes = refl
assoc Half Yes c = refl
assoc Yes b c = refl

pub greatest-append : (xs ys : List K3) → greatest_in (xs ++ ys) ≡ larger_of (greatest_in xs) (greatest_in ys)
greatest-append [] ys = refl
greatest-append (k ∷ xs) ys = ap (larger_of k) (greatest-append xs ys) ∙ assoc k (greatest_in xs) (greatest_in ys)

greatest_none : (n : ℕ) → greatest_in (replicate n No) ≡ No
greatest_none zero = refl
greatest_none (suc n) = greatest_none n

pub greatest_padded : (xs : List K3) (n : ℕ) → greatest_in (xs ++ replicate n No) ≡ greatest_in xs
greatest_padded xs n = greatest-append xs (replicate n No) ∙ ap (larger_of (greatest_in xs)) (greatest_none n) ∙ larger-no (greatest_in xs)

dual : (k g : K3) → negation_of (larger_of (negation_of k) g) ≡ smaller_of k (negation_of g)
dual No No = refl
dual No Half = refl
dual No Yes = refl
dual Half No = refl
dual Half Half = refl
dual Half Yes = refl
dual Yes No = refl
dual Yes Half = refl
dual Yes Yes = refl

pub least_negated : (xs : List K3) → negation_of (greatest_in (map negation_of xs)) ≡ least_in xs
least_negated [] = refl
least_negated (k ∷ xs) = dual k (greatest_in (map negation_of xs)) ∙ ap (smaller_of k) (least_negated xs)

pub least_first : (n : ℕ) (values : List K3) → negation_of (greatest_in (padded n (map negation_of values))) ≡ least_in (take n values)
unfolding padded
least_first n values =
    ap negation_of (greatest_padded (take n (map negation_of values)) (64 - n) ∙ ap greatest_in (take-map negation_of n values))
    ∙ least_negated (take n values)

-- a row of one word more
row_more : (words : List (List K3)) (start w : ℕ) → AreWords words → start + w < length words
    → row_of words (64 * (w + 1)) start ≡ row_of words (64 * w) start ++ word_at words (start + w)
row_more words start w long lt =
    let front : length (row_of words (64 * w) start) ≡ 64 * w = length-row_of words (64 * w) start
    in let word : length (word_at words (start + w)) ≡ 64 = long (start + w) [] lt
    in ext_get_or No (row_of words (64 * (w + 1)) start) (row_of words (64 * w) start ++ word_at words (start + w))
    (omega (arith, length-row_of words (64 * (w + 1)) start, length-append (row_of words (64 * w) start) (word_at words (start + w))))
    (λ x l.
    let lx : x < 64 * (w + 1) = omega (arith, length-row_of words (64 * (w + 1)) start)
    in get_or-row_of words (64 * (w + 1)) start x lx
    ∙ ⊎_elim
    (λ before.
    sym (get_or_append_left (row_of words (64 * w) start) (word_at words (start + w)) No x (omega arith) ∙ get_or-row_of words (64 * w) start x before))
    (λ from.
    let at : start + x / 64 ≡ start + w = omega arith
    in let low : x % 64 ≡ x - 64 * w = omega arith
    in ap (λ p. get_or (word_at words p) (x % 64) No) at ∙ ap (λ i. get_or (word_at words (start + w)) i No) low
    ∙ sym (get_or-append_right (row_of words (64 * w) start) (word_at words (start + w)) (64 * w) x No front from))
    (cases_lt x (64 * w)))

pub greatest_more : (words : List (List K3)) (start w : ℕ) → AreWords words → start + w < length words
    → larger_of (greatest_in (row_of words (64 * w) start)) (greatest_in (word_at words (start + w))) ≡ greatest_in (row_of words (64 * (w + 1)) start)
greatest_more words start w long lt = sym (ap greatest_in (row_more words start w long lt) ∙ greatest-append (row_of words (64 * w) start) (word_at words (start + w)))
