-- Level by level: what a search knows between two of them.
use Rattle.std.proofs.Common.{ℕ, ◌≡◌, ◌<◌, ◌≤◌, ◌+◌, ◌⊎◌, inl, inr, [], ◌++◌, length, Some, None, sym}
use Rattle.std.proofs.Common.{subst}
use Rattle.std.specs.Prelude.{All, slice_get}
use Rattle.std.proofs.lemmas.Bool.{cases_lt}
use Rattle.std.proofs.lemmas.List.Elements.{All-contains}
use Rattle.tv_model.proofs.Lists.{slice_get-contains}
use Rattle.tv_structure_form.specs.StructureForm.{StructureForm}
use Rattle.tv_work.specs.Reach.{Point}
use Rattle.tv_work.specs.Task.{TaskForm}
use Rattle.tv_trail_laws.specs.Met.{Found, IsAt, IsFirst, IsFromBelow, AreOpenedIn, IsPassed, IsLevel}
use Rattle.tv_trail_laws.specs.Met.{IsNearest}
use Rattle.tv_trail_laws.proofs.Levels.{level-first, level-next, level-hit}
use Rattle.tv_trail.specs.Searched.{TraceForm, Meets, AnswersLevel}
use Rattle.tv_trail.proofs.Kept.{at-on, passed-on}

module _ (t : TaskForm) (G : Point → Type 0) (old new : TraceForm) where
  -- all that was met as openings is the first level
  pub openings-level : old.found ≡ [] → Meets IsFirst old new
      → ((number : ℕ) (s : StructureForm) → slice_get t.initial number ≡ Some s
      → AreOpenedIn t new.found s) → IsLevel t G new.found 0 0
  openings-level none meets opened = level-first t G new.found first opened
    where
      same : new.found ≡ meets.more
      same = subst (λ l. new.found ≡ l ++ meets.more) none meets.is

      first : (place : ℕ) (f : Found) → slice_get new.found place ≡ Some f → IsFirst f
      first place f e =
          All-contains IsFirst meets.more f meets.each
          (slice_get-contains meets.more place f (subst (λ l. slice_get l place ≡ Some f) same e))

  module _ (to from depth : ℕ) (is : to ≡ length old.found) (level : IsLevel t G old.found from depth)
      (meets : Meets (IsFromBelow to) old new) where
    -- what was passed stays so
    passed-before : (place : ℕ) → place < from
        → (x : Point) × IsAt new.found place x × IsPassed t G new.found x
    passed-before place less = by (level.passed place less)
      where
        by : (x : Point) × IsAt old.found place x × IsPassed t G old.found x
            → (x : Point) × IsAt new.found place x × IsPassed t G new.found x
        by (x, at, passed) = (
          x,
          at-on (IsFromBelow to) old new meets place x at,
          passed-on (IsFromBelow to) t G old new meets x passed,
        )

    module _ (none : AnswersLevel t G from to new.found None) where
      passed-all : (place : ℕ) → place < to
          → (x : Point) × IsAt new.found place x × IsPassed t G new.found x
      passed-all place less = by (cases_lt place from)
        where
          by : (place < from) ⊎ (from ≤ place)
              → (x : Point) × IsAt new.found place x × IsPassed t G new.found x
          by (inl before) = passed-before place before
          by (inr past) = none place past less

      -- and what was met while it is passed is the next
      pub followed-level : IsLevel t G new.found to (depth + 1)
      followed-level =
          subst (λ l. IsLevel t G l to (depth + 1)) (sym meets.is)
          (subst (λ n. IsLevel t G (old.found ++ meets.more) n (depth + 1)) (sym is)
          (level-next t G old.found meets.more from depth level
          (subst (λ n. All (IsFromBelow n) meets.more) is meets.each)
          (λ place less. subst (λ l. (x : Point) × IsAt l place x × IsPassed t G l x) meets.is
          (passed-all place (subst (λ n. place < n) (sym is) less)))))

    -- a goal of it is a nearest one
    pub goal-nearest : (place : ℕ) → AnswersLevel t G from to new.found (Some place)
        → IsNearest t G new.found place
    goal-nearest place (less, (x, at, goal)) =
        subst (λ l. IsNearest t G l place) (sym meets.is)
        (level-hit t G old.found from depth level meets.more place x (subst (λ n. place < n) is less)
        (subst (λ l. IsAt l place x) meets.is at) goal)
