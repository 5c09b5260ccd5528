-- Where rows lie, counted by predicates that have one row alone.
use Rattle.std.proofs.Common.{ℕ, ◌≡◌, ◌<◌, ◌≤◌, ◌+◌, ◌-◌, ◌*◌, ◌^◌, ◌==◌, ◌&&◌, zero, suc, Bool, true, false}
use Rattle.std.proofs.Common.{IsTrue, nat_eq, if◌then◌else◌, List, [], ◌∷◌, length, get_or, take, refl, sym}
use Rattle.std.proofs.Common.{ap, ◌∙◌, arith, eqb-true}
use Rattle.std.specs.Cmp.Lexicographic.{pointwise}
use Rattle.std.proofs.lemmas.List.{length-take-le, get_or_read}
use Rattle.tv_structure_form.specs.TableForm.{row_count}
use Rattle.tv_struct.specs.LayoutForm.{LayoutForm, IsLaid, words_for, starts_from, end_from, row_place}
use Rattle.tv_struct.proofs.HeldLaws.{words_small, place_small}

-- so many of the predicates have one row alone, and each of the others `size` rows
abbrev Splits : (size n m : ℕ) (arities : List ℕ) → Type 0
Splits size n m arities =
    (single pairs : ℕ) × (end_from 0 m arities ≡ m + single) × (length arities ≡ single + pairs)
    × (end_from size n arities ≡ n + single + pairs * size)

one_more : (size n m : ℕ) (arities : List ℕ) (b : Bool)
    → Splits size (n + (if b then size else 1)) (m + (if b then 0 else 1)) arities
    → (single pairs : ℕ) × (end_from 0 (m + (if b then 0 else 1)) arities ≡ m + single) × (suc (length arities) ≡ single + pairs)
    × (end_from size (n + (if b then size else 1)) arities ≡ n + single + pairs * size)
one_more size n m arities true rest =
    let more : n + size + rest.0 + rest.1 * size ≡ n + rest.0 + suc rest.1 * size = grind arith
    in (rest.0, suc rest.1, omega (arith, rest.2), omega (arith, rest.3), rest.4 ∙ more)
one_more size n m arities false rest =
    (suc rest.0, rest.1, omega (arith, rest.2), omega (arith, rest.3), omega (arith, rest.4))

splits : (size n m : ℕ) (arities : List ℕ) → Splits size n m arities
splits size n m [] = (0, 0, omega arith, refl, omega arith)
splits size n m (arity ∷ arities) =
    one_more size n m arities (arity == 2) (splits size (n + row_count size arity) (m + row_count 0 arity) arities)

starts_many : (size n : ℕ) (arities : List ℕ) → length (starts_from size n arities) ≡ length arities
starts_many size n [] = refl
starts_many size n (arity ∷ arities) = ap suc (starts_many size (n + row_count size arity) arities)

-- the first row of a predicate is the end of those before
start_is_end : (size n : ℕ) (arities : List ℕ) (pred : ℕ) → pred < length arities
    → get_or (starts_from size n arities) pred 0 ≡ end_from size n (take pred arities)
start_is_end size n [] pred lt = absurd (omega arith)
start_is_end size n (arity ∷ arities) zero lt = refl
start_is_end size n (arity ∷ arities) (suc pred) lt = start_is_end size (n + row_count size arity) arities pred (omega arith)

-- the rows of some predicates are told by their number and by how many of them have one row alone
abbrev Counted : (size single many rows : ℕ) → Type 0
Counted size single many rows = (single ≤ many) × (rows ≡ single + (many - single) * size)

end_counted : (size : ℕ) (arities : List ℕ) → Counted size (end_from 0 0 arities) (length arities) (end_from size 0 arities)
end_counted size arities =
    let h : Splits size 0 0 arities = splits size 0 0 arities
    in let single : end_from 0 0 arities ≡ h.0 = omega (arith, h.2)
    in let pairs : length arities - end_from 0 0 arities ≡ h.1 = omega (arith, h.3, single)
    in let plain : 0 + h.0 + h.1 * size ≡ h.0 + h.1 * size = omega arith
    in (
      omega (arith, single, h.3),
      h.4 ∙ plain ∙ ap (λ s. s + h.1 * size) (sym single) ∙ ap (λ p. end_from 0 0 arities + p * size) (sym pairs),
    )

start_counted : (size : ℕ) (arities : List ℕ) (pred : ℕ) → pred < length arities
    → Counted size (get_or (starts_from 0 0 arities) pred 0) pred (get_or (starts_from size 0 arities) pred 0)
start_counted size arities pred lt =
    let before : List ℕ = take pred arities
    in let single : get_or (starts_from 0 0 arities) pred 0 ≡ end_from 0 0 before = start_is_end 0 0 arities pred lt
    in let many : length before ≡ pred = length-take-le pred arities (omega arith)
    in let h : Counted size (end_from 0 0 before) (length before) (end_from size 0 before) = end_counted size before
    in (
      omega (arith, single, many, h.0),
      start_is_end size 0 arities pred lt ∙ h.1 ∙ ap (λ n. end_from 0 0 before + (n - end_from 0 0 before) * size) many
          ∙ ap (λ s. s + (pred - s) * size) (sym single),
    )

-- ---- the places of predicates

module _ (size wide : ℕ) (arities singles : List ℕ) (all : ℕ)
    (h : IsLaid (record { size = size; arities = arities }) wide singles all) where
  abbrev layout : LayoutForm
  layout = record { size = size; arities = arities }

  pub singles_many : length singles ≡ length arities
  singles_many = ap length h.singles ∙ starts_many 0 0 arities

  pub singles_listed : (s n : ℕ) → s ≡ all → n ≡ length arities → s ≤ n
  singles_listed s n e many =
      omega (arith, e, many, h.total, (end_counted size arities).0)

  pub words_counted : (s n rows : ℕ) → s ≡ all → n ≡ length arities → rows ≡ s + (n - s) * size
      → (rows * wide < 2 ^ 64) × (rows * wide ≡ end_from size 0 arities * words_for size)
  words_counted s n rows e many is =
      let single : s ≡ end_from 0 0 arities = e ∙ h.total
      in let same : rows ≡ end_from size 0 arities
      = is ∙ ap (λ m. s + (m - s) * size) many ∙ ap (λ t. t + (length arities - t) * size) single ∙ sym (end_counted size arities).1
      in let words : rows * wide ≡ end_from size 0 arities * words_for size
      = ap (λ r. r * wide) same ∙ ap (λ w. end_from size 0 arities * w) h.width
      in (omega (arith, words, (words_small layout h.layout).1), words)

  module _ (pred single : ℕ) (lp : pred < length arities) (is : single ≡ get_or singles pred single) where
    single_is : single ≡ get_or (starts_from 0 0 arities) pred 0
    single_is =
        get_or_read singles pred single (omega (arith, lp, singles_many)) is 0 ∙ ap (λ xs. get_or xs pred 0) h.singles

    pub single_before : single ≤ pred
    single_before = omega (arith, single_is, (start_counted size arities pred lp).0)

    pub start_placed : (row rows : ℕ) → row < row_count size (get_or arities pred 0)
        → rows ≡ single + (pred - single) * size
        → (rows + row < 2 ^ 64) × ((rows + row) * wide < 2 ^ 64) × ((rows + row) * wide ≡ row_place layout pred row * words_for size)
    start_placed row rows lr counted =
        let first : rows ≡ get_or (starts_from size 0 arities) pred 0
        = counted ∙ ap (λ s. s + (pred - s) * size) single_is ∙ sym (start_counted size arities pred lp).1
        in let small : (row_place layout pred row < 2 ^ 64) × (row_place layout pred row * words_for size < 2 ^ 64)
        = place_small layout pred row h.layout lp lr
        in let words : (rows + row) * wide ≡ row_place layout pred row * words_for size
        = ap (λ r. (r + row) * wide) first ∙ ap (λ w. row_place layout pred row * w) h.width
        in (omega (arith, first, small.0), omega (arith, words, small.1), words)

-- ---- equal arities

both : (x y : Bool) → IsTrue (x && y) → IsTrue x × IsTrue y
both true true e = (refl, refl)
both true false e = absurd cc
both false y e = absurd cc

pub same_arities : (xs ys : List ℕ) → IsTrue (pointwise nat_eq xs ys) → xs ≡ ys
same_arities [] [] e = refl
same_arities [] (y ∷ ys) e = absurd cc
same_arities (x ∷ xs) [] e = absurd cc
same_arities (x ∷ xs) (y ∷ ys) e =
    let h : IsTrue (nat_eq x y) × IsTrue (pointwise nat_eq xs ys) = both (nat_eq x y) (pointwise nat_eq xs ys) e
    in let first : x ≡ y = eqb-true x y h.0
    in let rest : xs ≡ ys = same_arities xs ys h.1
    in λ i. first i ∷ rest i
