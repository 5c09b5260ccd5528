-- Tuples and single individuals that are put for variables, below and above a map.
use Rattle.std.proofs.Common.{ℕ, ◌≡◌, ◌≢◌, ◌⊎◌, List, [], ◌∷◌, length, map, inl, inr, ⊎_elim, sym, subst, All}
use Rattle.std.proofs.Common.{Contains, arith}
use Rattle.std.proofs.lemmas.Bool.{cases_eq}
use Rattle.std.proofs.lemmas.List.Elements.{All-head, All-tail}
use Rattle.tv_model.specs.Truth.{Assignment, put, put_all}
use Rattle.tv_model.proofs.Lists.{Contains-none, Contains-cases}
use Rattle.tv_model.proofs.Assignments.{put-same, put-other}

-- what a and b match at variables that matter, and u and w match, they match at v too once these are put there
pub put-goes : (M : ℕ → ℕ → Type 0) (matters : ℕ → Type 0) (a b : Assignment) (v u w : ℕ) → M u w
    → ((x : ℕ) → matters x → M (a x) (b x)) → (x : ℕ) → (v ≡ x) ⊎ matters x → M (put a v u x) (put b v w x)
put-goes M matters a b v u w new old x either = go (cases_eq x v) either
  where
    at_v : x ≡ v → M (put a v u x) (put b v w x)
    at_v e =
        let Left : ℕ → Type 0 = λ y. M y (put b v w x)
        in let Right : ℕ → Type 0 = λ y. M u y
        in subst Left (sym (put-same a v u x e)) (subst Right (sym (put-same b v w x e)) new)

    elsewhere : x ≢ v → matters x → M (put a v u x) (put b v w x)
    elsewhere ne m =
        let Left : ℕ → Type 0 = λ y. M y (put b v w x)
        in let Right : ℕ → Type 0 = λ y. M (a x) y
        in subst Left (sym (put-other a v u x ne)) (subst Right (sym (put-other b v w x ne)) (old x m))

    go : (x ≡ v) ⊎ (x ≢ v) → (v ≡ x) ⊎ matters x → M (put a v u x) (put b v w x)
    go (inl e) which = at_v e
    go (inr ne) (inl e) = at_v (sym e)
    go (inr ne) (inr m) = elsewhere ne m

-- the same of a tuple and its image
pub put_all-goes : (M : ℕ → ℕ → Type 0) (g : ℕ → ℕ) (vars us : List ℕ) → length us ≡ length vars
    → All (λ u. M u (g u)) us
    → (matters : ℕ → Type 0) (a b : Assignment) → ((x : ℕ) → matters x → M (a x) (b x))
    → (x : ℕ) → Contains vars x ⊎ matters x → M (put_all a vars us x) (put_all b vars (map g us) x)
put_all-goes M g [] us same all matters a b old x either =
    ⊎_elim (λ at. absurd (Contains-none x at)) (λ m. old x m) either
put_all-goes M g (v ∷ vars) [] same all matters a b old x either = absurd (omega arith)
put_all-goes M g (v ∷ vars) (u ∷ us) same all matters a b old x either =
    let shorter : length us ≡ length vars = omega arith
    in put_all-goes M g vars us shorter (All-tail (λ y. M y (g y)) u us all) (λ y. (v ≡ y) ⊎ matters y)
    (put a v u) (put b v (g u))
    (put-goes M matters a b v u (g u) (All-head (λ y. M y (g y)) u us all) old)
    x
    (⊎_elim (λ at. ⊎_elim (λ e. inr (inl e)) (λ later. inl later) (Contains-cases v x vars at))
    (λ m. inr (inr m)) either)
