-- Lemmas on rounds, for the crates above: how the greatest, the least and the best walk grow by one more
-- individual, for programs that take the individuals one after the other.
use Rattle.std.proofs.Common.{ℕ, ◌+◌, zero-add, ◌≡◌, List, [], ◌∷◌, ◌++◌, refl, sym, ap, ◌∙◌}
use Rattle.std.proofs.Common.{All, Contains}
use Rattle.std.specs.List.{range_with_len}
use Rattle.std.proofs.lemmas.List.{map-id}
use Rattle.std.proofs.lemmas.List.FromFn.{map-range_with_len_more}
use Rattle.std.proofs.lemmas.List.Elements.{All-head, All-tail}
use Rattle.tv_kleene.specs.declared.K3.{K3}
use Rattle.tv_kleene.specs.Kleene.{smaller_of, larger_of}
use Rattle.tv_kleene.proofs.Lattice.{larger-assoc, smaller-assoc}
use Rattle.tv_model.proofs.Lists.{Contains-here, Contains-there}
use Rattle.tv_eval_laws.specs.Value.{greatest_of, least_of, best_walk}

-- ---- the greatest and the least

pub greatest-append : (g : ℕ → K3) (xs ys : List ℕ)
    → greatest_of g (xs ++ ys) ≡ larger_of (greatest_of g xs) (greatest_of g ys)
greatest-append g [] ys = refl
greatest-append g (x ∷ xs) ys =
    ap (λ k. larger_of (g x) k) (greatest-append g xs ys)
    ∙ sym (larger-assoc (g x) (greatest_of g xs) (greatest_of g ys))

pub least-append : (g : ℕ → K3) (xs ys : List ℕ) → least_of g (xs ++ ys) ≡ smaller_of (least_of g xs) (least_of g ys)
least-append g [] ys = refl
least-append g (x ∷ xs) ys =
    ap (λ k. smaller_of (g x) k) (least-append g xs ys) ∙ sym (smaller-assoc (g x) (least_of g xs) (least_of g ys))

pub greatest-same : (g h : ℕ → K3) (xs : List ℕ) → ((u : ℕ) → Contains xs u → g u ≡ h u)
    → greatest_of g xs ≡ greatest_of h xs
greatest-same g h [] same = refl
greatest-same g h (x ∷ xs) same =
    ap (λ k. larger_of k (greatest_of g xs)) (same x (Contains-here x xs))
    ∙ ap (λ k. larger_of (h x) k) (greatest-same g h xs (λ u at. same u (Contains-there x u xs at)))

pub least-same : (g h : ℕ → K3) (xs : List ℕ) → ((u : ℕ) → Contains xs u → g u ≡ h u) → least_of g xs ≡ least_of h xs
least-same g h [] same = refl
least-same g h (x ∷ xs) same =
    ap (λ k. smaller_of k (least_of g xs)) (same x (Contains-here x xs))
    ∙ ap (λ k. smaller_of (h x) k) (least-same g h xs (λ u at. same u (Contains-there x u xs at)))

-- ---- the first k numbers

pub range-push : (k : ℕ) → range_with_len 0 (k + 1) ≡ range_with_len 0 k ++ k ∷ []
range-push k =
    sym (map-id (range_with_len 0 (k + 1)))
    ∙ map-range_with_len_more (λ u. u) 0 k k (zero-add k)
    ∙ ap (λ xs. xs ++ k ∷ []) (map-id (range_with_len 0 k))

-- ---- the best walk

-- equal edges have equal best walks
pub best_walk-same : (D : ℕ → Type 0) (edge other : ℕ → ℕ → K3) → ((u w : ℕ) → D u → D w → edge u w ≡ other u w)
    → (allowed : List ℕ) → All D allowed → (u w : ℕ) → D u → D w
    → best_walk edge allowed u w ≡ best_walk other allowed u w
best_walk-same D edge other same [] all u w hu hw = same u w hu hw
best_walk-same D edge other same (x ∷ allowed) all u w hu hw =
    let hx : D x = All-head D x allowed all
    in let rest : All D allowed = All-tail D x allowed all
    in ap (λ k. larger_of k (smaller_of (best_walk edge allowed u x) (best_walk edge allowed x w)))
    (best_walk-same D edge other same allowed rest u w hu hw)
    ∙ ap (λ k. larger_of (best_walk other allowed u w) (smaller_of k (best_walk edge allowed x w)))
    (best_walk-same D edge other same allowed rest u x hu hx)
    ∙ ap (λ k. larger_of (best_walk other allowed u w) (smaller_of (best_walk other allowed u x) k))
    (best_walk-same D edge other same allowed rest x w hx hw)
