-- Trails to the greatest value of a message, by what two searches find.
use Rattle.std.proofs.Common.{ℕ, ◌≡◌, List, refl}
use Rattle.tv_kleene.specs.declared.K3.{K3}
use Rattle.tv_kleene.specs.declared.K3.TheVariants.{No, Half, Yes}
use Rattle.tv_kleene.specs.Kleene.{larger_of}
use Rattle.tv_model.specs.Program.{ProgramForm}
use Rattle.tv_model.specs.declared.program.Mode.{Mode}
use Rattle.tv_structure_form.specs.StructureForm.{StructureForm}
use Rattle.tv_trail_laws.specs.Trails.{HasValueAt, IsShortest}
use Rattle.tv_trail_laws.specs.declared.trail.Trail.{Trail}
use Rattle.tv_work.specs.Analyzed.{IsSaid}
use Rattle.tv_work.specs.Reach.{Point, IsReached}
use Rattle.tv_trail.specs.Laws.{TrailsLeadToLines}
use Rattle.tv_trail.specs.Reasons.{IsNeverRaised, LeadsToGreatest}
use Rattle.tv_trail.proofs.Ends.{trail-reached}

module _ (p : ProgramForm) (mode : Mode) (initial : List StructureForm) (edge number : ℕ) where
  -- no reached structure gives the message this value
  abbrev pub IsNowhere : K3 → Type 0
  IsNowhere k = (x : Point) → IsReached p mode initial x → ¬ HasValueAt p edge number k x

  pub leads-surely : (trail : Trail) → IsShortest p mode initial (HasValueAt p edge number Yes) trail
      → LeadsToGreatest p mode initial edge number trail Yes
  leads-surely trail shortest = record {
    some = λ e. cc;
    shortest = shortest;
    greatest = λ x k reached has. yes k;
  }
    where
      yes : (k : K3) → larger_of k Yes ≡ Yes
      yes No = refl
      yes Half = refl
      yes Yes = refl

  pub leads-maybe : (trail : Trail) → IsShortest p mode initial (HasValueAt p edge number Half) trail
      → IsNowhere Yes → LeadsToGreatest p mode initial edge number trail Half
  leads-maybe trail shortest nowhere = record {
    some = λ e. cc;
    shortest = shortest;
    greatest = half;
  }
    where
      half : (x : Point) (k : K3) → IsReached p mode initial x → HasValueAt p edge number k x
          → larger_of k Half ≡ Half
      half x No reached has = refl
      half x Half reached has = refl
      half x Yes reached has = absurd (nowhere x reached has)

  pub never-raised : IsNowhere Yes → IsNowhere Half → IsNeverRaised p mode initial edge number
  never-raised surely maybe x No reached has = refl
  never-raised surely maybe x Half reached has = absurd (maybe x reached has)
  never-raised surely maybe x Yes reached has = absurd (surely x reached has)

-- the line of the message has the value
pub lead-to-line : TrailsLeadToLines
lead-to-line p mode initial max listing lines edge number trail k analysis leads =
    (analysis.reported (record { edge = edge; number = number; value = k })).1 (record {
      some = leads.some;
      said = said;
      greatest = λ other is. greatest other is;
    })
  where
    said : IsSaid p (IsReached p mode initial) edge number k
    said = record {
      at = leads.shortest.last;
      source = record {
        taken = leads.shortest.is_goal.leaves.0;
        is_edge = leads.shortest.is_goal.leaves.1;
        leaves = leads.shortest.is_goal.leaves.2;
        has = trail-reached p mode initial trail leads.shortest.last leads.shortest.is_trail;
      };
      value = leads.shortest.is_goal.is_value;
    }

    greatest : (other : K3) → IsSaid p (IsReached p mode initial) edge number other → larger_of other k ≡ k
    greatest other is = leads.greatest is.at other is.source.has (record {
      leaves = (is.source.taken, is.source.is_edge, is.source.leaves);
      is_value = is.value;
    })
