-- Goals, by what a search tells of them.
use Rattle.std.proofs.Common.{ℕ, ◌⊎◌, inl, inr, List, refl, sym, ap, subst, ◌∙◌}
use Rattle.std.specs.Prelude.{slice_get}
use Rattle.tv_kleene.specs.declared.K3.{K3}
use Rattle.tv_model.specs.Program.{ProgramForm}
use Rattle.tv_step_laws.specs.Transfer.{AreMessageValues, IsMessageValue}
use Rattle.tv_step_laws.proofs.Exact.{values-once}
use Rattle.tv_work.specs.Leaving.{LeavesBy}
use Rattle.tv_work.specs.Reach.{Point}
use Rattle.tv_trail_laws.specs.declared.trail.Goal.{Goal}
use Rattle.tv_trail_laws.specs.declared.trail.Goal.TheVariants.{Message, Structure}
use Rattle.tv_trail_laws.specs.Trails.{HasValueAt, IsGoal}
use Rattle.tv_trail.specs.Aims.{Raises, IsThere, IsGoalAlong}

pub goal-there : (p : ProgramForm) (goal : Goal) (x : Point) → IsThere goal x.node x.structure → IsGoal p goal x
goal-there p (Message edge number k) x is = absurd is
goal-there p (Structure node s) x is = is

pub goal-along : (p : ProgramForm) (goal : Goal) (edge : ℕ) (x : Point) → IsGoalAlong p goal edge x
    → IsGoal p goal x
goal-along p (Message asked number k) edge x (same, has) =
    subst (λ e. HasValueAt p e number k x) (sym same) has
goal-along p (Structure node s) edge x is = absurd is

-- a goal is there, or along an edge that leaves its node
pub goal-cases : (p : ProgramForm) (goal : Goal) (x : Point) → IsGoal p goal x
    → IsThere goal x.node x.structure
    ⊎ ((edge : ℕ) × LeavesBy p.edges x.node edge × IsGoalAlong p goal edge x)
goal-cases p (Message asked number k) x is = inr (asked, is.leaves, (refl, is))
goal-cases p (Structure node s) x is = inl is

module _ (p : ProgramForm) (edge : ℕ) (x : Point) (values : List K3)
    (are : AreMessageValues p edge x.structure values) where
  pub raised-along : (goal : Goal) → LeavesBy p.edges x.node edge → Raises goal edge values
      → IsGoalAlong p goal edge x
  raised-along (Message asked number k) leaves (same, at) =
      (same, record { leaves = leaves; is_value = (values, are, at) })
  raised-along (Structure node s) leaves is = absurd is

  pub along-raised : (goal : Goal) → IsGoalAlong p goal edge x → Raises goal edge values
  along-raised (Message asked number k) (same, has) = by has.is_value
    where
      by : IsMessageValue p edge x.structure number k → Raises (Message asked number k) edge values
      by (ks, too, at) =
          (same, ap (λ vs. slice_get vs number) (values-once p edge x.structure values ks are too) ∙ at)
  along-raised (Structure node s) is = absurd is
