-- A message that is never raised has no line, and one that has no line is never raised.
use Rattle.std.proofs.Common.{◌≡◌, ℕ, List, refl, subst}
use Rattle.std.specs.Prelude.{Contains, Some, slice_get}
use Rattle.tv_kleene.specs.Kleene.{larger_of}
use Rattle.tv_kleene.specs.declared.K3.{K3}
use Rattle.tv_kleene.specs.declared.K3.TheVariants.{No, Half, Yes}
use Rattle.tv_listing.specs.declared.analysis.MessageLine.{MessageLine}
use Rattle.tv_model.specs.Program.{ProgramForm}
use Rattle.tv_model.specs.declared.program.Mode.{Mode}
use Rattle.tv_step_laws.specs.Transfer.{IsMessageValue}
use Rattle.tv_structure_form.specs.StructureForm.{StructureForm}
use Rattle.tv_trail_laws.specs.Trails.{HasValueAt}
use Rattle.tv_trail.specs.Reasons.{IsNeverRaised}
use Rattle.tv_work.specs.Analyzed.{IsAnalysis, IsSaid}
use Rattle.tv_work.specs.Reach.{IsReached, Point}
use Rattle.tv_explain.specs.Laws.{SilenceIsNoLine}

module _ (p : ProgramForm) (mode : Mode) (initial : List StructureForm) (max : ℕ)
    (listing : List (List StructureForm)) (lines : List MessageLine) (edge number : ℕ)
    (analysis : IsAnalysis p mode initial max listing lines) where
  abbrev NoLine : Type 0
  NoLine = (line : MessageLine) → Contains lines line → ¬ ((line.edge ≡ edge) × (line.number ≡ number))

  abbrev line_of : K3 → MessageLine
  line_of k = record { edge = edge; number = number; value = k }

  -- what a line tells of is raised
  never : IsNeverRaised p mode initial edge number → NoLine
  never silent line there (at_edge, at_number) =
      let told = (analysis.reported line).0 there in
      told.some (silent told.said.at line.value told.said.source.has (record {
        leaves = (
          told.said.source.taken,
          subst (λ e. slice_get p.edges e ≡ Some told.said.source.taken) at_edge told.said.source.is_edge,
          told.said.source.leaves,
        );
        is_value = subst (λ n. IsMessageValue p edge told.said.at.structure n line.value) at_number
            (subst (λ e. IsMessageValue p e told.said.at.structure line.number line.value) at_edge told.said.value);
      }))

  said_at : (x : Point) (k : K3) → IsReached p mode initial x → HasValueAt p edge number k x
      → IsSaid p (IsReached p mode initial) edge number k
  said_at x k reached has = record {
    at = x;
    source = record {
      taken = has.leaves.0;
      is_edge = has.leaves.1;
      leaves = has.leaves.2;
      has = reached;
    };
    value = has.is_value;
  }

  -- the greatest value that is said has a line
  none_surely : NoLine → ¬ IsSaid p (IsReached p mode initial) edge number Yes
  none_surely none said = none (line_of Yes) ((analysis.reported (line_of Yes)).1 (record {
    some = λ e. cc;
    said = said;
    greatest = λ k other. yes_greatest k;
  })) (refl, refl)
    where
      yes_greatest : (k : K3) → larger_of k Yes ≡ Yes
      yes_greatest No = refl
      yes_greatest Half = refl
      yes_greatest Yes = refl

  none_maybe : NoLine → ¬ IsSaid p (IsReached p mode initial) edge number Half
  none_maybe none said = none (line_of Half) ((analysis.reported (line_of Half)).1 (record {
    some = λ e. cc;
    said = said;
    greatest = λ k other. half_greatest k other;
  })) (refl, refl)
    where
      half_greatest : (k : K3) → IsSaid p (IsReached p mode initial) edge number k → larger_of k Half ≡ Half
      half_greatest No other = refl
      half_greatest Half other = refl
      half_greatest Yes other = absurd (none_surely none other)

  unsaid : NoLine → (k : K3) → IsSaid p (IsReached p mode initial) edge number k → k ≡ No
  unsaid none No said = refl
  unsaid none Half said = absurd (none_maybe none said)
  unsaid none Yes said = absurd (none_surely none said)

  silent : NoLine → IsNeverRaised p mode initial edge number
  silent none x k reached has = unsaid none k (said_at x k reached has)

pub silence : SilenceIsNoLine
silence p mode initial max listing lines edge number analysis = (
  never p mode initial max listing lines edge number analysis,
  silent p mode initial max listing lines edge number analysis,
)
