-- Filtered and mapped lists, and the individuals that a choice keeps.
use Rattle.std.proofs.Common.{ℕ, ◌≡◌, Bool, List, [], ◌∷◌, map, filter, refl, sym, ap, subst, ◌∙◌, Contains}
use Rattle.std.proofs.Common.{IsTrue, cond}
use Rattle.tv_model.proofs.Lists.{Contains-here, Contains-there, Contains-filter, Contains-filter_back}
use Rattle.tv_model.proofs.Lists.{Contains-map, Contains-map_back}

pub filter-alike : (keep other : ℕ → Bool) (us : List ℕ) → ((u : ℕ) → Contains us u → keep u ≡ other u)
    → filter keep us ≡ filter other us
filter-alike keep other [] same = refl
filter-alike keep other (u ∷ us) same =
    ap (λ b. cond b (u ∷ filter keep us) (filter keep us)) (same u (Contains-here u us))
    ∙ ap (λ ws. cond (other u) (u ∷ ws) ws)
    (filter-alike keep other us (λ w at. same w (Contains-there u w us at)))

-- where the new individuals come, in order, from those that are kept
pub kept-origin : (origin : ℕ → ℕ) (news olds : List ℕ) (keep : ℕ → Bool) → map origin news ≡ filter keep olds
    → (u : ℕ) → Contains news u → Contains olds (origin u) × IsTrue (keep (origin u))
kept-origin origin news olds keep same u at =
    Contains-filter_back keep olds (origin u)
    (subst (λ us. Contains us (origin u)) same (Contains-map origin u news at))

pub kept-new : (origin : ℕ → ℕ) (news olds : List ℕ) (keep : ℕ → Bool) → map origin news ≡ filter keep olds
    → (w : ℕ) → Contains olds w → IsTrue (keep w) → (u : ℕ) × Contains news u × (origin u ≡ w)
kept-new origin news olds keep same w at k =
    Contains-map_back origin news w
    (subst (λ us. Contains us w) (sym same) (Contains-filter keep olds w at k))
