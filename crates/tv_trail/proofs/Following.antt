-- A point that is followed along each edge that leaves its node.
use Rattle.std.proofs.Common.{ℕ, ◌≡◌, ◌<◌, ◌≤◌, ◌+◌, ◌⊎◌, inl, inr, false, List, Some, sym, subst, ◌∙◌, arith}
use Rattle.std.specs.Prelude.{All, Contains, slice_get}
use Rattle.std.proofs.lemmas.Bool.{cases_lt}
use Rattle.std.proofs.lemmas.List.Elements.{All-contains}
use Rattle.std.proofs.lemmas.Option.{same_Some}
use Rattle.tv_structure_form.specs.StructureForm.{StructureForm}
use Rattle.tv_step_laws.specs.Budgets.{KeepsBudgets}
use Rattle.tv_work.specs.Leaving.{LeavesBy}
use Rattle.tv_work.specs.Reach.{Point}
use Rattle.tv_work.specs.Task.{TaskForm}
use Rattle.tv_trail_laws.specs.declared.trail.Goal.{Goal}
use Rattle.tv_trail_laws.specs.Met.{Found, IsAt, AreOpenedIn, IsFollowed}
use Rattle.tv_trail_laws.specs.Trails.{IsGoal}
use Rattle.tv_trail_laws.proofs.Places.{at-once}
use Rattle.tv_trail.specs.Aims.{IsThere, IsGoalAlong}
use Rattle.tv_trail.specs.Searched.{TraceForm, Meets, AnswersAlong, AnswersHere, IsFollowedAlong}
use Rattle.tv_trail.proofs.Aiming.{goal-cases}
use Rattle.tv_trail.proofs.Kept.{at-on, along-on, opened-on, passed-on}

module _ (t : TaskForm) (P : Found → Type 0) (old new : TraceForm) (meets : Meets P old new) where
  pub answers-on : (goal : Goal) (place edge : ℕ) → AnswersAlong t goal place edge old.found false
      → AnswersAlong t goal place edge new.found false
  answers-on goal place edge (x, at, none, followed, budgets) =
      (x, at-on P old new meets place x at, none, along-on P t old new meets edge x followed, budgets)

  pub here-on : (G : Point → Type 0) (place : ℕ) → AnswersHere t G place old.found false
      → AnswersHere t G place new.found false
  here-on G place (x, at, passed) = (x, at-on P old new meets place x at, passed-on P t G old new meets x passed)

-- where it is no goal there, and none along each of these edges, and is followed along them, it is passed
module _ (t : TaskForm) (goal : Goal) (found : List Found) (place : ℕ) (x : Point) (at : IsAt found place x)
    (edges : List ℕ) (leaving : (edge : ℕ) → LeavesBy t.program.edges x.node edge → Contains edges edge)
    (all : All (λ edge. AnswersAlong t goal place edge found false) edges)
    (nowhere : ¬ IsThere goal x.node x.structure) where
  abbrev IsDoneAlong : (edge : ℕ) → Point → Type 0
  IsDoneAlong edge y = (¬ IsGoalAlong t.program goal edge y) × IsFollowedAlong t found edge y
      × KeepsBudgets t.program edge y.structure

  along : (edge : ℕ) → LeavesBy t.program.edges x.node edge → IsDoneAlong edge x
  along edge leaves =
      by (All-contains (λ e. AnswersAlong t goal place e found false) edges edge all (leaving edge leaves))
    where
      by : AnswersAlong t goal place edge found false → IsDoneAlong edge x
      by (y, there, none, follows, budgets) =
          subst (IsDoneAlong edge) (at-once found place y x there at) (none, follows, budgets)

  no-goal : ¬ IsGoal t.program goal x
  no-goal is = by (goal-cases t.program goal x is)
    where
      by : IsThere goal x.node x.structure
          ⊎ ((edge : ℕ) × LeavesBy t.program.edges x.node edge × IsGoalAlong t.program goal edge x) → ⊥
      by (inl there) = nowhere there
      by (inr (edge, leaves, raised)) = (along edge leaves).0 raised

  followed : IsFollowed t found x
  followed y (edge, taken, leads) =
      (along edge (taken, leads.is_edge, leads.leaves)).1 taken y leads

  pub passed-here : AnswersHere t (IsGoal t.program goal) place found false
  passed-here = (
    x,
    at,
    record {
      none = no-goal;
      followed = followed;
      budgets = λ edge leaves. (along edge leaves).2;
    },
  )

-- ---- one after the other

-- what holds of the places so far, and of the next one
next-place : (P : ℕ → Type 0) (place n : ℕ) → n < place + 1 → (n < place → P n) → P place → P n
next-place P place n less before here = by (cases_lt n place)
  where
    by : (n < place) ⊎ (place ≤ n) → P n
    by (inl lt) = before lt
    by (inr le) = subst P (omega (arith, less, le)) here

pub passed-next : (t : TaskForm) (G : Point → Type 0) (P : Found → Type 0) (old new : TraceForm)
    → Meets P old new → (from place : ℕ)
    → ((n : ℕ) → from ≤ n → n < place → AnswersHere t G n old.found false)
    → AnswersHere t G place new.found false → (n : ℕ) → from ≤ n → n < place + 1
    → AnswersHere t G n new.found false
passed-next t G P old new meets from place before here n past less =
    next-place (λ m. AnswersHere t G m new.found false) place n less
    (λ lt. here-on t P old new meets G n (before n past lt)) here

pub opened-next : (t : TaskForm) (P : Found → Type 0) (old new : TraceForm) → Meets P old new → (place : ℕ)
    (first : StructureForm) → slice_get t.initial place ≡ Some first
    → ((n : ℕ) (s : StructureForm) → n < place → slice_get t.initial n ≡ Some s → AreOpenedIn t old.found s)
    → AreOpenedIn t new.found first → (n : ℕ) (s : StructureForm) → n < place + 1
    → slice_get t.initial n ≡ Some s → AreOpenedIn t new.found s
opened-next t P old new meets place first is before here n s less e =
    next-place (λ m. (u : StructureForm) → slice_get t.initial m ≡ Some u → AreOpenedIn t new.found u) place n
    less (λ lt u at. opened-on P t old new meets u (before n u lt at))
    (λ u at. subst (AreOpenedIn t new.found) (same_Some first u (sym is ∙ at)) here) s e
