-- Lists that are alike, item by item.
use Rattle.std.proofs.Common.{◌≡◌, ◌≢◌, ℕ, suc, ◌+◌, ◌<◌, ◌≤◌, List, [], ◌∷◌, ◌++◌, length, take, map}
use Rattle.std.proofs.Common.{get_or, refl, sym, ◌∙◌, ap, arith, zero}
use Rattle.std.specs.Prelude.{IsTrue, false}
use Rattle.std.proofs.lemmas.Bool.{false≢true}
use Rattle.tv_lemmas.proofs.Lists.{map_next}
use Rattle.tv_compiled.proofs.Turns.{rest_at}

pub turn : {S T : Type 0} (see : S → T) (xs ys : List S) (i : ℕ) (x y : S) → length xs ≡ length ys → i < length xs
    → x ≡ get_or xs i x → y ≡ get_or ys i y → map see (take i xs) ≡ map see (take i ys) → see x ≡ see y
    → map see (take (i + 1) xs) ≡ map see (take (i + 1) ys)
turn see xs ys i x y same below is_x is_y so_far alike =
    map_next see xs i x below is_x ∙ (λ j. so_far j ++ alike j ∷ [])
    ∙ sym (map_next see ys i y (omega (arith, same, below)) is_y)

take_all : {S : Type 0} (xs : List S) (i : ℕ) → length xs ≤ i → take i xs ≡ xs
take_all [] zero past = refl
take_all [] (suc i) past = refl
take_all (x ∷ xs) zero past = absurd (omega (arith, past))
take_all (x ∷ xs) (suc i) past = ap (λ ys. x ∷ ys) (take_all xs i (omega (arith, past)))

pub whole : {S T : Type 0} (see : S → T) (xs ys : List S) (i : ℕ) → length xs ≡ length ys → length xs ≤ i
    → map see (take i xs) ≡ map see (take i ys) → map see xs ≡ map see ys
whole see xs ys i same past so_far =
    ap (map see) (sym (take_all xs i past)) ∙ so_far ∙ ap (map see) (take_all ys i (omega (arith, same, past)))

item : {S T : Type 0} (see : S → T) (xs : List S) (i : ℕ) (x : S) (d : T) → i < length xs → x ≡ get_or xs i x
    → get_or (map see xs) i d ≡ see x
item see [] i x d below is = absurd (omega (arith, below))
item see (y ∷ ys) zero x d below is = ap see (sym is)
item see (y ∷ ys) (suc i) x d below is = item see ys i x d (omega (arith, below)) is

pub apart : {S T : Type 0} (see : S → T) (xs ys : List S) (i : ℕ) (x y : S) → i < length xs → length xs ≡ length ys
    → x ≡ get_or xs i x → y ≡ get_or ys i y → see x ≢ see y → map see xs ≢ map see ys
apart see xs ys i x y below same is_x is_y differ alike =
    differ (sym (item see xs i x (see x) below is_x) ∙ ap (λ zs. get_or zs i (see x)) alike
    ∙ item see ys i y (see x) (omega (arith, same, below)) is_y)

length_map : {S T : Type 0} (see : S → T) (xs : List S) → length (map see xs) ≡ length xs
length_map see [] = refl
length_map see (x ∷ xs) = ap suc (length_map see xs)

pub longer : {S T : Type 0} (see : S → T) (xs ys : List S) → length xs ≢ length ys → map see xs ≢ map see ys
longer see xs ys differ alike = differ (sym (length_map see xs) ∙ ap length alike ∙ length_map see ys)

-- where two items differ, so do the lists
pub told_apart : {S T : Type 0} (see : S → T) (xs ys : List S) (i : ℕ) (x y : S) → i < length xs
    → length xs ≡ length ys → x ≡ get_or xs i x → y ≡ get_or ys i y → (see x ≡ see y → IsTrue false)
    → (IsTrue false → map see xs ≡ map see ys) × (map see xs ≡ map see ys → IsTrue false)
told_apart see xs ys i x y below same is_x is_y differ = (
  (λ no. absurd (false≢true no)),
  (λ alike. absurd (apart see xs ys i x y below same is_x is_y (λ e. false≢true (differ e)) alike)),
)
