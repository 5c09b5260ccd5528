-- What a search answers, by cases.
use Rattle.std.proofs.Common.{Option, Some, None}
use Rattle.std.proofs.Common.{arith}
use Rattle.std.specs.Prelude.{IfSome, IfNone}
use Rattle.tv_work.specs.Reach.{Point}
use Rattle.tv_work.specs.Task.{TaskForm, reached_in}
use Rattle.tv_trail_laws.specs.declared.trail.Trail.{Trail}
use Rattle.tv_trail_laws.specs.Met.{IsMet, IsPassed}
use Rattle.tv_trail_laws.specs.Trails.{IsShortest}
use Rattle.tv_trail.specs.Reasons.{StaysWithin}
use Rattle.tv_trail.specs.Searched.{AnswersTrail, IsState, TraceForm}

module _ (t : TaskForm) (G : Point → Type 0) where
  pub shortest-some : (found : Option Trail) → AnswersTrail t G found
      → IfSome found (IsShortest t.program t.mode t.initial G)
  shortest-some None is = tt
  shortest-some (Some trail) is = is

  pub goal-none : (found : Option Trail) → AnswersTrail t G found
      → IfNone found ((x : Point) → reached_in t x → ¬ G x)
  goal-none None is = is.0
  goal-none (Some trail) is = tt

  pub goal-ends : (found : Option Trail) → AnswersTrail t G found
      → IfNone found (StaysWithin t.program t.mode t.initial t.max)
  goal-ends None is = is.1
  goal-ends (Some trail) is = tt

-- where all that is reached was met and passed, the analysis ends
pub all-passed : (t : TaskForm) (G : Point → Type 0) (s : TraceForm) → IsState t s
    → ((x : Point) → reached_in t x → IsMet s.found x × IsPassed t G s.found x) → AnswersTrail t G None
all-passed t G s kept all = (
  λ x reached. (all x reached).1.none,
  record {
    listing = s.listing;
    all = λ x reached. kept.listed.listed x (all x reached).0;
    few = omega (arith, kept.listed.count, kept.within);
    budgets = λ edge x source.
        (all x source.has).1.budgets edge (source.taken, source.is_edge, source.leaves);
  },
)
