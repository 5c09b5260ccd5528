-- Places in a list that grows.
use Rattle.std.proofs.Common.{ℕ, zero, suc, ◌≡◌, ◌<◌, ◌≤◌, ◌⊎◌, inl, inr, List, [], ◌∷◌, ◌++◌, length, Some}
use Rattle.std.proofs.Common.{sym, ap, ◌∙◌, arith}
use Rattle.std.specs.Prelude.{Contains, slice_get}
use Rattle.std.proofs.lemmas.Option.{same_Some, slice_get_within}
use Rattle.tv_lemmas.proofs.Lists.{still_at}
use Rattle.tv_model.proofs.Lists.{slice_get-contains}
use Rattle.tv_work.specs.Reach.{Point}
use Rattle.tv_trail_laws.specs.declared.trail.Origin.TheVariants.{Initial, Step}
use Rattle.tv_trail_laws.specs.Met.{Found, IsAt, IsMet, HasDepth}

pub at-cases : {X : Type 0} (old more : List X) (place : ℕ) (x : X) → slice_get (old ++ more) place ≡ Some x
    → (slice_get old place ≡ Some x) ⊎ ((length old ≤ place) × Contains more x)
at-cases [] more place x e = inr (omega arith, slice_get-contains more place x e)
at-cases (y ∷ old) more zero x e = inl e
at-cases (y ∷ old) more (suc place) x e = by (at-cases old more place x e)
  where
    by : (slice_get old place ≡ Some x) ⊎ ((length old ≤ place) × Contains more x)
        → (slice_get old place ≡ Some x) ⊎ ((length (y ∷ old) ≤ suc place) × Contains more x)
    by (inl is) = inl is
    by (inr (past, has)) = inr (omega (arith, past), has)

-- one point is met at a place
pub at-once : (found : List Found) (place : ℕ) (x y : Point) → IsAt found place x → IsAt found place y → x ≡ y
at-once found place x y (o, e) (q, g) =
    ap (λ (f : Found). f.point)
    (same_Some (record { point = x; origin = o }) (record { point = y; origin = q }) (sym e ∙ g))

pub at-place : (found : List Found) (place : ℕ) (x : Point) → IsAt found place x → place < length found
at-place found place x (o, e) = slice_get_within found place (record { point = x; origin = o }) e

module _ (found more : List Found) where
  pub is_at-more : (place : ℕ) (x : Point) → IsAt found place x → IsAt (found ++ more) place x
  is_at-more place x (origin, e) =
      (origin, still_at found more place (record { point = x; origin = origin }) e)

  pub met-more : (x : Point) → IsMet found x → IsMet (found ++ more) x
  met-more x (place, at) = (place, is_at-more place x at)

  pub depth-more : (place depth : ℕ) → HasDepth found place depth → HasDepth (found ++ more) place depth
  depth-more place zero (x, number, e) =
      (x, number, still_at found more place (record { point = x; origin = Initial number }) e)
  depth-more place (suc depth) (x, before, edge, e, rest) = (
    x,
    before,
    edge,
    still_at found more place (record { point = x; origin = Step before edge }) e,
    depth-more before depth rest,
  )
