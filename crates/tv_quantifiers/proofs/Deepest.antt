-- How deep the formulas of a list go.
use Rattle.std.proofs.Common.{ℕ, ◌≡◌, ◌≤◌, List, [], ◌∷◌, map, min, max, Contains, refl, sym, ap, subst, ◌∙◌}
use Rattle.std.proofs.Common.{arith}
use Rattle.std.specs.List.{fold}
use Rattle.std.proofs.Common.{⊎_elim}
use Rattle.tv_model.proofs.Lists.{Contains-none, Contains-cases}
use Rattle.tv_quantifiers.specs.Heights.{deepest}

-- a fold by numbers that are cut off at m gives the deepest, cut off at m
pub fold-capped : {X : Type 0} (g : X → ℕ) (m n : ℕ) (xs : List X)
    → fold (λ k x. max k (min (g x) m)) n xs ≡ max n (min (deepest g xs) m)
fold-capped g m n [] = omega arith
fold-capped g m n (x ∷ xs) = fold-capped g m (max n (min (g x) m)) xs ∙ omega arith

pub deepest-map : {X Y : Type 0} (g : Y → ℕ) (f : X → Y) (xs : List X) → deepest g (map f xs) ≡ deepest
    (λ x. g (f x)) xs
deepest-map g f [] = refl
deepest-map g f (x ∷ xs) = ap (λ n. max (g (f x)) n) (deepest-map g f xs)

-- the fold that a loop over parts of a program computes, for the values of these parts
pub fold-of_parts : {X Y : Type 0} (g : Y → ℕ) (f : X → Y) (m r : ℕ) (xs : List X)
    → r ≡ fold (λ k x. max k (min (g (f x)) m)) 0 xs → r ≡ min (deepest g (map f xs)) m
fold-of_parts g f m r xs e =
    e ∙ fold-capped (λ x. g (f x)) m 0 xs ∙ omega arith ∙ ap (λ n. min n m) (sym (deepest-map g f xs))

-- no element goes deeper than the deepest
pub deepest-above : {X : Type 0} (g : X → ℕ) (xs : List X) (x : X) → Contains xs x → g x ≤ deepest g xs
deepest-above g [] x at = absurd (Contains-none x at)
deepest-above g (y ∷ xs) x at =
    ⊎_elim
    (λ e. subst (λ z. g z ≤ max (g y) (deepest g xs)) e (omega arith))
    (λ there. let below : g x ≤ deepest g xs = deepest-above g xs x there in omega arith)
    (Contains-cases y x xs at)

-- the greater of two numbers that are cut off
pub capped-max : (a b x y m r : ℕ) → a ≡ min x m → b ≡ min y m → r ≡ max a b → r ≡ min (max x y) m
capped-max a b x y m r ea eb er = omega arith
