-- What stands at the end of a trail.
use Rattle.std.proofs.Common.{ℕ, suc, ◌-◌, ◌<◌, length, get_or, ◌≡◌, List, [], ◌∷◌, Some, None, refl, sym, ap}
use Rattle.std.proofs.Common.{subst, ◌∙◌, arith}
use Rattle.std.proofs.Common.{Contains}
use Rattle.std.specs.Prelude.{All, Any, IfNone, Option, slice_get}
use Rattle.tv_kleene.specs.declared.K3.{K3}
use Rattle.tv_listing.specs.ListingForm.{at_node}
use Rattle.tv_listing.specs.declared.analysis.MessageLine.{MessageLine}
use Rattle.tv_model.specs.declared.program.Edge.{Edge}
use Rattle.tv_model.specs.declared.program.Mode.{Mode}
use Rattle.tv_model.specs.declared.program.Vocab.{Vocab}
use Rattle.tv_model.specs.Program.{ProgramForm}
use Rattle.tv_model.proofs.Lists.{slice_get-contains}
use Rattle.tv_structure_form.specs.StructureForm.{StructureForm, IsOver, IsStructure}
use Rattle.tv_struct.specs.declared.analysis.StageError.{StageError}
use Rattle.tv_step_laws.specs.Budgets.{IsStepCause}
use Rattle.tv_step_laws.specs.Transfer.{IsMessageValue, IsOpening}
use Rattle.tv_trail.specs.Over.{IsTrailOver}
use Rattle.tv_trail_laws.specs.Trails.{HasValueAt, IsShortest, IsTrailTo, LeadOn}
use Rattle.tv_trail_laws.specs.declared.trail.Link.{Link}
use Rattle.tv_trail_laws.specs.declared.trail.Trail.{Trail}
use Rattle.tv_work.specs.Analyzed.{IsAnalysis, IsWorkCause, work_error}
use Rattle.tv_work.proofs.Causes.{step-cause}
use Rattle.tv_work.specs.Reach.{Point, IsReached, Leads}
use Rattle.tv_trail.specs.Reasons.{last_from, last_of}

-- ---- the last structure

-- it stands behind the last link
pub last-at : (s : StructureForm) (links : List Link) (d : Link) → 0 < length links
    → (get_or links (length links - 1) d).structure ≡ last_from s links
last-at s [] d some = absurd (omega (arith, some))
last-at s (link ∷ []) d some = refl
last-at s (link ∷ next ∷ links) d some =
    let shorter : length (link ∷ next ∷ links) - 1 ≡ suc (length (next ∷ links) - 1) = omega arith in
    ap (λ k. (get_or (link ∷ next ∷ links) k d).structure) shorter
    ∙ last-at link.structure (next ∷ links) d (omega arith)

-- it is over the vocabulary
last-over : (vocab : Vocab) (s : StructureForm) (links : List Link) → IsOver vocab s
    → All (λ link. IsStructure link.structure × IsOver vocab link.structure) links → IsOver vocab (last_from s links)
last-over vocab s [] over all = over
last-over vocab s (link ∷ links) over all =
    last-over vocab link.structure links (all 0 link (omega arith)).1
    (λ k d within. all (suc k) d (omega (arith, within)))

pub trail-over : (vocab : Vocab) (trail : Trail) → IsTrailOver vocab trail → IsOver vocab (last_of trail)
trail-over vocab trail over = last-over vocab trail.opening trail.links over.opening.1 over.links

module _ (p : ProgramForm) (mode : Mode) (initial : List StructureForm) where
  -- links lead to it
  last-is : (x : Point) (links : List Link) (y : Point) → LeadOn p mode x links y
      → last_from x.structure links ≡ y.structure
  last-is x [] y e = ap (λ (z : Point). z.structure) e
  last-is x (link ∷ links) y (taken, leads, rest) =
      last-is (record { node = taken.to; structure = link.structure }) links y rest

  pub trail-last : (trail : Trail) (y : Point) → IsTrailTo p mode initial trail y → last_of trail ≡ y.structure
  trail-last trail y is = last-is (record { node = 0; structure = trail.opening }) trail.links y is.leads

  -- where a trail opens is reached
  pub opening-reached : (trail : Trail) (y : Point) → IsTrailTo p mode initial trail y
      → IsReached p mode initial (record { node = 0; structure = trail.opening })
  opening-reached trail y is = record {
    before = [];
    derivation = record {
      node = refl;
      opens = opened (slice_get-contains initial trail.initial is.first is.is_first);
    };
  }
    where
      opened : Contains initial is.first → Any (λ s. IsOpening p s trail.opening) initial
      opened (k, within, at) = (k, is.first, within, at, is.opens)

  -- so is where a link leads
  pub link-reached : (x : Point) (link : Link) (taken : Edge) → IsReached p mode initial x
      → Leads p mode link.edge taken x (record { node = taken.to; structure = link.structure })
      → IsReached p mode initial (record { node = taken.to; structure = link.structure })
  link-reached x link taken reached leads = record {
    before = x ∷ reached.before;
    derivation = ((link.edge, taken, leads), reached.derivation);
  }

  reached-on : (x : Point) (links : List Link) (y : Point) → IsReached p mode initial x → LeadOn p mode x links y
      → IsReached p mode initial y
  reached-on x [] y reached e = subst (IsReached p mode initial) e reached
  reached-on x (link ∷ links) y reached (taken, leads, rest) =
      reached-on (record { node = taken.to; structure = link.structure }) links y
      (link-reached x link taken reached leads) rest

  pub trail-reached : (trail : Trail) (y : Point) → IsTrailTo p mode initial trail y → IsReached p mode initial y
  trail-reached trail y is =
      reached-on (record { node = 0; structure = trail.opening }) trail.links y (opening-reached trail y is) is.leads

  module _ (edge number : ℕ) (trail : Trail) (k : K3)
      (shortest : IsShortest p mode initial (HasValueAt p edge number k) trail) where
    -- a step there that meets a budget is the cause of a search's
    pub end-cause : (max : ℕ) (fault : StageError) → IsStepCause p edge (last_of trail) fault
        → IsWorkCause p max (IsReached p mode initial) (work_error fault)
    end-cause max fault cause =
        step-cause p max edge (IsReached p mode initial) shortest.last (record {
          taken = shortest.is_goal.leaves.0;
          is_edge = shortest.is_goal.leaves.1;
          leaves = shortest.is_goal.leaves.2;
          has = trail-reached trail shortest.last shortest.is_trail;
        }) fault
        (subst (λ t. IsStepCause p edge t fault) (trail-last trail shortest.last shortest.is_trail) cause)

    -- the message has its value there
    pub value-there : IsMessageValue p edge (last_of trail) number k
    value-there =
        subst (λ t. IsMessageValue p edge t number k) (sym (trail-last trail shortest.last shortest.is_trail))
        shortest.is_goal.is_value

-- ---- a listed structure

-- a search misses no structure that is listed
pub never-missed : (p : ProgramForm) (mode : Mode) (initial : List StructureForm) (max : ℕ)
    (listing : List (List StructureForm)) (lines : List MessageLine)
    → IsAnalysis p mode initial max listing lines → (node index : ℕ) (s : StructureForm)
    → slice_get (at_node listing node) index ≡ Some s → (G : Point → Type 0)
    → G (record { node = node; structure = s }) → (P : Type 0) (found : Option Trail)
    → IfNone found ((x : Point) → IsReached p mode initial x → ¬ G x) → IfNone found P
never-missed p mode initial max listing lines exact node index s at G is P None none =
    absurd (none (record { node = node; structure = s })
    ((exact.exact node s).0 (slice_get-contains (at_node listing node) index s at)) is)
never-missed p mode initial max listing lines exact node index s at G is P (Some trail) none = tt
