-- Breadth first: level by level all is met that so many steps reach, so the first goal is a nearest one.
use Rattle.std.proofs.Common.{ℕ, suc, ◌≡◌, ◌<◌, ◌≤◌, ◌+◌, ◌⊎◌, inl, inr, List, [], ◌∷◌, ◌++◌, length}
use Rattle.std.proofs.Common.{Some, sym, ap, subst, ◌∙◌, arith}
use Rattle.std.specs.Prelude.{All, Any, Contains, slice_get}
use Rattle.std.proofs.lemmas.Bool.{cases_lt}
use Rattle.std.proofs.lemmas.List.Elements.{All-contains}
use Rattle.std.proofs.lemmas.Option.{slice_get-get_or}
use Rattle.tv_lemmas.proofs.Lists.{some_at}
use Rattle.tv_structure_form.specs.StructureForm.{StructureForm}
use Rattle.tv_step_laws.specs.Transfer.{IsOpening}
use Rattle.tv_work.specs.Reach.{Point, IsDerivation, IsStartPoint}
use Rattle.tv_work.specs.Task.{TaskForm, reached_in}
use Rattle.tv_trail_laws.specs.Met.{Found, IsAt, IsMet, IsFirst, IsFromBelow, AreOpenedIn}
use Rattle.tv_trail_laws.specs.Met.{IsPassed}
use Rattle.tv_trail_laws.specs.Met.{HasDepth, IsLevel, IsNearest}
use Rattle.tv_trail_laws.proofs.Places.{at-cases, at-once, at-place, is_at-more, met-more}
use Rattle.tv_trail_laws.proofs.Places.{depth-more}

-- a point that is passed at its place has no goal, and what follows it is met
module _ (t : TaskForm) (G : Point → Type 0) (found : List Found) (place : ℕ) (x : Point)
    (at : IsAt found place x) where
  passed-at : (y : Point) × IsAt found place y × IsPassed t G found y → IsPassed t G found x
  passed-at (y, there, passed) = subst (IsPassed t G found) (at-once found place y x there at) passed

-- ---- the first level

module _ (t : TaskForm) (G : Point → Type 0) (found : List Found)
    (first : (place : ℕ) (f : Found) → slice_get found place ≡ Some f → IsFirst f)
    (opened : (number : ℕ) (s : StructureForm) → slice_get t.initial number ≡ Some s
    → AreOpenedIn t found s) where
  start-met : (x : Point) → IsStartPoint t.program t.initial x → IsMet found x
  start-met x start = by start.opens
    where
      by : Any (λ s. IsOpening t.program s x.structure) t.initial → IsMet found x
      by (k, s, within, at, opening) = subst (λ n. IsMet found (record { node = n; structure = x.structure }))
          (sym start.node)
          (opened k s (slice_get-get_or t.initial k s within ∙ ap Some at) x.structure opening)

  first-depth : (place : ℕ) (f : Found) → slice_get found place ≡ Some f → IsFirst f
      → (n : ℕ) × (n ≤ 0) × HasDepth found place n
  first-depth place f e (number, is) = (
    0,
    omega arith,
    (f.point, number, e ∙ ap (λ o. Some (record { point = f.point; origin = o })) is),
  )

  first-whole : (x : Point) (before : List Point) → IsDerivation t.program t.mode t.initial x before
      → length before ≤ 0 → IsMet found x
  first-whole x [] start most = start-met x start
  first-whole x (b ∷ before) derivation most = absurd (omega (arith, most))

  pub level-first : IsLevel t G found 0 0
  level-first = record {
    shallow = λ place f e. first-depth place f e (first place f e);
    whole = first-whole;
    earlier = λ x before derivation less. absurd (omega (arith, less));
    passed = λ place less. absurd (omega (arith, less));
  }

-- ---- the next level

module _ (t : TaskForm) (G : Point → Type 0) (found more : List Found) (from depth : ℕ)
    (level : IsLevel t G found from depth) (each : All (IsFromBelow (length found)) more)
    (passed : (place : ℕ) → place < length found
    → (x : Point) × IsAt (found ++ more) place x × IsPassed t G (found ++ more) x) where
  deeper : (place : ℕ) (f : Found) → slice_get (found ++ more) place ≡ Some f → IsFromBelow (length found) f
      → (n : ℕ) × (n ≤ depth + 1) × HasDepth (found ++ more) place n
  deeper place f e (before, edge, less, is) = by (some_at found before less)
    where
      by : (b : Found) × (slice_get found before ≡ Some b)
          → (n : ℕ) × (n ≤ depth + 1) × HasDepth (found ++ more) place n
      by (b, at) = on (level.shallow before b at)
        where
          on : (n : ℕ) × (n ≤ depth) × HasDepth found before n
              → (n : ℕ) × (n ≤ depth + 1) × HasDepth (found ++ more) place n
          on (n, most, has) = (
            suc n,
            omega (arith, most),
            (
              f.point,
              before,
              edge,
              e ∙ ap (λ o. Some (record { point = f.point; origin = o })) is,
              depth-more found more before n has,
            ),
          )

  next-shallow : (place : ℕ) (f : Found) → slice_get (found ++ more) place ≡ Some f
      → (n : ℕ) × (n ≤ depth + 1) × HasDepth (found ++ more) place n
  next-shallow place f e = by (at-cases found more place f e)
    where
      on : (n : ℕ) × (n ≤ depth) × HasDepth found place n
          → (n : ℕ) × (n ≤ depth + 1) × HasDepth (found ++ more) place n
      on (n, most, has) = (n, omega (arith, most), depth-more found more place n has)

      by : (slice_get found place ≡ Some f) ⊎ ((length found ≤ place) × Contains more f)
          → (n : ℕ) × (n ≤ depth + 1) × HasDepth (found ++ more) place n
      by (inl old) = on (level.shallow place f old)
      by (inr (past, has)) =
          deeper place f e (All-contains (IsFromBelow (length found)) more f each has)

  next-whole : (x : Point) (before : List Point) → IsDerivation t.program t.mode t.initial x before
      → length before ≤ depth + 1 → IsMet (found ++ more) x
  next-whole x [] derivation most = met-more found more x (level.whole x [] derivation (omega arith))
  next-whole x (b ∷ before) (follows, derivation) most =
      by (level.whole b before derivation (omega (arith, most)))
    where
      by : IsMet found b → IsMet (found ++ more) x
      by (place, at) =
          (passed-at t G (found ++ more) place b (is_at-more found more place b at)
          (passed place (at-place found place b at))).followed x follows

  next-earlier : (x : Point) (before : List Point) → IsDerivation t.program t.mode t.initial x before
      → length before < depth + 1 → (place : ℕ) × (place < length found) × IsAt (found ++ more) place x
  next-earlier x before derivation less = by (level.whole x before derivation (omega (arith, less)))
    where
      by : IsMet found x → (place : ℕ) × (place < length found) × IsAt (found ++ more) place x
      by (place, at) = (place, at-place found place x at, is_at-more found more place x at)

  pub level-next : IsLevel t G (found ++ more) (length found) (depth + 1)
  level-next = record {
    shallow = next-shallow;
    whole = next-whole;
    earlier = next-earlier;
    passed = passed;
  }

-- ---- a goal, or none

module _ (t : TaskForm) (G : Point → Type 0) (found : List Found) (from depth : ℕ)
    (level : IsLevel t G found from depth) where
  -- what is passed is no goal, so no goal is reached by fewer steps
  none-earlier : (y : Point) (before : List Point) → IsDerivation t.program t.mode t.initial y before → G y
      → depth ≤ length before
  none-earlier y before derivation is = by (cases_lt (length before) depth)
    where
      on : (place : ℕ) × (place < from) × IsAt found place y → depth ≤ length before
      on (place, less, at) = absurd ((passed-at t G found place y at (level.passed place less)).none is)

      by : (length before < depth) ⊎ (depth ≤ length before) → depth ≤ length before
      by (inl less) = on (level.earlier y before derivation less)
      by (inr most) = most

  -- a goal of this level is a nearest one
  pub level-hit : (more : List Found) (place : ℕ) (x : Point) → place < length found
      → IsAt (found ++ more) place x → G x → IsNearest t G (found ++ more) place
  level-hit more place x within at is = by (some_at found place within)
    where
      by : (f : Found) × (slice_get found place ≡ Some f) → IsNearest t G (found ++ more) place
      by (f, e) = on (level.shallow place f e)
        where
          on : (n : ℕ) × (n ≤ depth) × HasDepth found place n → IsNearest t G (found ++ more) place
          on (n, most, has) = record {
            point = x;
            is_at = at;
            is_goal = is;
            depth = n;
            has_depth = depth-more found more place n has;
            nearest = λ y before derivation goal.
                omega (arith, most, none-earlier y before derivation goal);
          }

  -- where all is passed, what is reached is met
  all-met : length found ≤ from → (before : List Point) (x : Point)
      → IsDerivation t.program t.mode t.initial x before → IsMet found x
  all-met past [] x derivation = level.whole x [] derivation (omega arith)
  all-met past (b ∷ before) x (follows, derivation) = by (all-met past before b derivation)
    where
      by : IsMet found b → IsMet found x
      by (place, at) =
          (passed-at t G found place b at
          (level.passed place (omega (arith, past, at-place found place b at)))).followed x follows

  -- and passed
  pub level-passed : length found ≤ from → (x : Point) → reached_in t x → IsMet found x × IsPassed t G found x
  level-passed past x reached = by (all-met past reached.before x reached.derivation)
    where
      by : IsMet found x → IsMet found x × IsPassed t G found x
      by (place, at) = (
        (place, at),
        passed-at t G found place x at
            (level.passed place (omega (arith, past, at-place found place x at))),
      )

  pub level-none : length found ≤ from → (x : Point) → reached_in t x → ¬ G x
  level-none past x reached = (level-passed past x reached).1.none
