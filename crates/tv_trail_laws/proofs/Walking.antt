-- A walk back from what was met at a place, and the trail that comes of it.
use Rattle.std.proofs.Common.{ℕ, zero, suc, ◌≡◌, ◌<◌, ◌+◌, Bool, true, false, true≢false, List, [], ◌∷◌, ◌++◌}
use Rattle.std.proofs.Common.{length, reverse, Some, refl, sym, ap, subst, ◌∙◌, arith}
use Rattle.std.specs.Prelude.{slice_get}
use Rattle.std.proofs.lemmas.List.{length-append, length-reverse, reverse-append}
use Rattle.std.proofs.lemmas.Option.{same_Some}
use Rattle.tv_model.specs.declared.program.Edge.{Edge}
use Rattle.tv_work.specs.Reach.{Point, Leads}
use Rattle.tv_work.specs.Task.{TaskForm}
use Rattle.tv_trail_laws.specs.declared.trail.Origin.{Origin}
use Rattle.tv_trail_laws.specs.declared.trail.Origin.TheVariants.{Initial, Step}
use Rattle.tv_trail_laws.specs.declared.trail.Link.{Link}
use Rattle.tv_trail_laws.specs.declared.trail.Trail.{Trail}
use Rattle.tv_trail_laws.specs.Met.{Found, IsAt, IsOrigin, AreTraced, HasDepth, IsLevel, IsNearest}
use Rattle.tv_trail_laws.specs.Met.{IsTrailFrom}
use Rattle.tv_trail_laws.specs.Trails.{LeadOn, IsTrailTo, IsShortest}
use Rattle.tv_trail_laws.proofs.Levels.{level-hit}
use Rattle.tv_trail_laws.proofs.Places.{at-once, at-place}

-- the links, the last first, lead from what was met at the last place to what was met at the first
pub record ComesFrom (t : TaskForm) (found : List Found) (place last : ℕ) (links : List Link) : Type 0 where
  pub within : last < length found
  pub leads : (y z : Point) → IsAt found place y → IsAt found last z
      → LeadOn t.program t.mode z (reverse links) y
  pub steps : (depth : ℕ) → HasDepth found place depth
      → (n : ℕ) × HasDepth found last n × (n + length links ≡ depth)

pub comes-none : (t : TaskForm) (found : List Found) (place : ℕ) → place < length found
    → ComesFrom t found place place []
comes-none t found place within = record {
  within = within;
  leads = λ y z a b. at-once found place z y b a;
  steps = λ depth has. (depth, has, omega arith);
}

-- ---- origins differ

abbrev is_first : Origin → Bool
is_first (Initial number) = true
is_first (Step before edge) = false

abbrev before_of : Origin → ℕ
before_of (Initial number) = 0
before_of (Step before edge) = before

same-origin : (found : List Found) (place : ℕ) (x y : Point) (o q : Origin)
    → slice_get found place ≡ Some (record { point = x; origin = o })
    → slice_get found place ≡ Some (record { point = y; origin = q }) → o ≡ q
same-origin found place x y o q e g =
    ap (λ (f : Found). f.origin)
    (same_Some (record { point = x; origin = o }) (record { point = y; origin = q }) (sym e ∙ g))

depth-first : (found : List Found) (place number : ℕ) (z : Point) (n : ℕ)
    → slice_get found place ≡ Some (record { point = z; origin = Initial number }) → HasDepth found place n
    → n ≡ 0
depth-first found place number z zero e has = refl
depth-first found place number z (suc n) e (x, before, edge, g, rest) =
    absurd
    (true≢false (ap is_first (same-origin found place z x (Initial number) (Step before edge) e g)))

depth-step : (found : List Found) (place before edge : ℕ) (z : Point) (n : ℕ)
    → slice_get found place ≡ Some (record { point = z; origin = Step before edge }) → HasDepth found place n
    → (m : ℕ) × (n ≡ m + 1) × HasDepth found before m
depth-step found place before edge z zero e (x, number, g) =
    absurd
    (true≢false (ap is_first (same-origin found place x z (Initial number) (Step before edge) g e)))
depth-step found place before edge z (suc n) e (x, b, along, g, rest) = (
  n,
  omega arith,
  subst (λ q. HasDepth found q n)
      (ap before_of (same-origin found place x z (Step b along) (Step before edge) g e)) rest,
)

module _ (t : TaskForm) (found : List Found) (traced : AreTraced t found) (place last : ℕ) (links : List Link)
    (comes : ComesFrom t found place last links) (z : Point) where
  -- ---- one step back
  module _ (before edge : ℕ)
      (e : slice_get found last ≡ Some (record { point = z; origin = Step before edge })) where
    came : IsOrigin t found last z (Step before edge)
    came = traced last (record { point = z; origin = Step before edge }) e

    pub goes-back : before < last
    goes-back = came.0

    back-leads : (b : Point) → IsAt found before b → (taken : Edge)
        → Leads t.program t.mode edge taken b z → (y c : Point) → IsAt found place y
        → IsAt found before c
        → LeadOn t.program t.mode c
        (reverse (links ++ record { edge = edge; structure = z.structure } ∷ [])) y
    back-leads b at taken leads y c first there =
        let l : Link = record { edge = edge; structure = z.structure }
        in let w : Point = record { node = taken.to; structure = z.structure }
        in let same : z ≡ w = ap (λ n. record { node = n; structure = z.structure }) leads.enters
        in let rest : LeadOn t.program t.mode w (reverse links) y
        = subst (λ q. LeadOn t.program t.mode q (reverse links) y) same
        (comes.leads y z first (Step before edge, e))
        in let on : LeadOn t.program t.mode b (l ∷ reverse links) y
        = (taken, subst (Leads t.program t.mode edge taken b) same leads, rest)
        in subst (λ q. LeadOn t.program t.mode q (reverse (links ++ l ∷ [])) y)
        (at-once found before b c at there)
        (subst (λ ls. LeadOn t.program t.mode b ls y) (sym (reverse-append links (l ∷ []))) on)

    back-steps : (depth : ℕ) → HasDepth found place depth
        → (n : ℕ) × HasDepth found before n
        × (n + length (links ++ record { edge = edge; structure = z.structure } ∷ []) ≡ depth)
    back-steps depth has = by (comes.steps depth has)
      where
        by : (n : ℕ) × HasDepth found last n × (n + length links ≡ depth)
            → (n : ℕ) × HasDepth found before n
            × (n + length (links ++ record { edge = edge; structure = z.structure } ∷ []) ≡ depth)
        by (n, here, count) = on (depth-step found last before edge z n e here)
          where
            on : (m : ℕ) × (n ≡ m + 1) × HasDepth found before m
                → (n : ℕ) × HasDepth found before n
                × (n + length (links ++ record { edge = edge; structure = z.structure } ∷ []) ≡ depth)
            on (m, more, there) = (
              m,
              there,
              omega (
                arith,
                more,
                count,
                length-append links (record { edge = edge; structure = z.structure } ∷ []),
              ),
            )

    pub comes-next : ComesFrom t found place before
        (links ++ record { edge = edge; structure = z.structure } ∷ [])
    comes-next = by came
      where
        by : IsOrigin t found last z (Step before edge) → ComesFrom t found place before
            (links ++ record { edge = edge; structure = z.structure } ∷ [])
        by (less, (b, at, (taken, leads))) = record {
          within = omega (arith, less, comes.within);
          leads = back-leads b at taken leads;
          steps = back-steps;
        }

  -- ---- the opening
  module _ (number : ℕ)
      (e : slice_get found last ≡ Some (record { point = z; origin = Initial number })) where
    begins : (x : Point) → IsAt found place x → IsOrigin t found last z (Initial number)
        → IsTrailTo t.program t.mode t.initial
        (record { initial = number; opening = z.structure; links = reverse links }) x
    begins x at (node, (first, is_first, opening)) = record {
      first = first;
      is_first = is_first;
      opens = opening;
      leads = subst (λ q. LeadOn t.program t.mode q (reverse links) x)
          (ap (λ n. record { node = n; structure = z.structure }) node)
          (comes.leads x z at (Initial number, e));
    }

    begin-steps : (depth : ℕ) → HasDepth found place depth → length (reverse links) ≡ depth
    begin-steps depth has = by (comes.steps depth has)
      where
        by : (n : ℕ) × HasDepth found last n × (n + length links ≡ depth) → length (reverse links) ≡ depth
        by (n, here, count) =
            omega (arith, length-reverse links, count, depth-first found last number z n e here)

    pub comes-trail : IsTrailFrom t found place
        (record { initial = number; opening = z.structure; links = reverse links })
    comes-trail = record {
      is_trail = λ x at. begins x at
          (traced last (record { point = z; origin = Initial number }) e);
      steps = begin-steps;
    }

-- so there is a trail, of as many links
walk : (t : TaskForm) (found : List Found) → AreTraced t found → (place last : ℕ) (links : List Link)
    → ComesFrom t found place last links → (n : ℕ) → HasDepth found last n
    → (trail : Trail) × IsTrailFrom t found place trail
walk t found traced place last links comes zero (z, number, e) = (
  record { initial = number; opening = z.structure; links = reverse links },
  comes-trail t found traced place last links comes z number e,
)
walk t found traced place last links comes (suc n) (z, before, edge, e, rest) =
    walk t found traced place before (links ++ record { edge = edge; structure = z.structure } ∷ [])
    (comes-next t found traced place last links comes z before edge e) n rest

-- a trail to a nearest goal is a shortest one
pub nearest-shortest : (t : TaskForm) (G : Point → Type 0) (found : List Found) (place : ℕ) (trail : Trail)
    → IsNearest t G found place → IsTrailFrom t found place trail
    → IsShortest t.program t.mode t.initial G trail
nearest-shortest t G found place trail nearest from = record {
  last = nearest.point;
  is_trail = from.is_trail nearest.point nearest.is_at;
  is_goal = nearest.is_goal;
  shortest = λ y before derivation is.
      omega (
        arith,
        from.steps nearest.depth nearest.has_depth,
        nearest.nearest y before derivation is,
      );
}

pub shortest-there : (t : TaskForm) (G : Point → Type 0) (found : List Found) (place : ℕ) → AreTraced t found
    → place < length found → IsNearest t G found place
    → (trail : Trail) × IsShortest t.program t.mode t.initial G trail
shortest-there t G found place traced within nearest =
    by (walk t found traced place place [] (comes-none t found place within) nearest.depth nearest.has_depth)
  where
    by : (trail : Trail) × IsTrailFrom t found place trail
        → (trail : Trail) × IsShortest t.program t.mode t.initial G trail
    by (trail, from) = (trail, nearest-shortest t G found place trail nearest from)

-- to a goal of a level there is a shortest one
pub shortest-of-level : (t : TaskForm) (G : Point → Type 0) (found more : List Found) (from depth : ℕ)
    → IsLevel t G found from depth → AreTraced t (found ++ more) → (place : ℕ) (x : Point)
    → place < length found → IsAt (found ++ more) place x → G x
    → (trail : Trail) × IsShortest t.program t.mode t.initial G trail
shortest-of-level t G found more from depth level traced place x within at is =
    shortest-there t G (found ++ more) place traced (at-place (found ++ more) place x at)
    (level-hit t G found from depth level more place x within at is)
