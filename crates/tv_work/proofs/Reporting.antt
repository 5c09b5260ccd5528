-- What an analysis answers of what it lists and tells.
use Rattle.std.proofs.Common.{ℕ, ◌≡◌, ◌≢◌, ◌⊎◌, inl, inr, List, refl, sym, subst, ◌∙◌}
use Rattle.std.specs.Prelude.{Contains, ◌↔◌}
use Rattle.tv_kleene.specs.declared.K3.{K3}
use Rattle.tv_kleene.specs.declared.K3.TheVariants.{No}
use Rattle.tv_kleene.specs.Kleene.{larger_of}
use Rattle.tv_model.specs.declared.program.Mode.{Mode}
use Rattle.tv_model.specs.Program.{ProgramForm}
use Rattle.tv_model.proofs.Lists.{All-from_contains}
use Rattle.tv_listing.specs.declared.analysis.MessageLine.{MessageLine}
use Rattle.tv_structure_form.specs.StructureForm.{StructureForm}
use Rattle.tv_step_laws.specs.Closed.{IsCovered, IsFollowed, IsOpened, HasLine}
use Rattle.tv_step_laws.specs.Transfer.{AreResults, IsMessageValue, IsOpening, HasNoOpening}
use Rattle.tv_work.specs.Analyzed.{IsSaid, IsReported}
use Rattle.tv_work.specs.Reach.{Point}
use Rattle.tv_work.specs.Told.{told_value, IsTold, AreLines}
use Rattle.tv_work.proofs.Larger.{larger-both, larger-some}

pub covered-opened : (p : ProgramForm) (ts : List StructureForm) (s : StructureForm)
    → HasNoOpening p s ⊎ ((u : StructureForm) × IsOpening p s u)
    → ((u : StructureForm) → IsOpening p s u → IsCovered ts u) → IsOpened p ts s
covered-opened p ts s (inl none) covered = inl none
covered-opened p ts s (inr (u, opening)) covered = inr (u, opening, covered u opening)

-- where the greatest values of messages are told, the lines of what is told are those that are reported
module _ (p : ProgramForm) (told : List (List K3)) (lines : List MessageLine) (are : AreLines told lines) where
  module _ (P : Point → Type 0)
      (all : (edge number : ℕ) (k : K3) → IsSaid p P edge number k
      → larger_of k (told_value told edge number) ≡ told_value told edge number)
      (some : (edge number : ℕ) → told_value told edge number ≢ No
      → IsSaid p P edge number (told_value told edge number)) where
    reported : (line : MessageLine) → IsTold told line → IsReported p P line
    reported line is = record {
      some = is.some;
      said = subst (IsSaid p P line.edge line.number) (sym is.value)
          (some line.edge line.number (λ none. is.some (is.value ∙ none)));
      greatest = λ k said. subst (λ v. larger_of k v ≡ v) (sym is.value) (all line.edge line.number k said);
    }

    from-reported : (line : MessageLine) → IsReported p P line → IsTold told line
    from-reported line is =
        let value = told_value told line.edge line.number
        in let up : larger_of line.value value ≡ value = all line.edge line.number line.value is.said
        in let isnt_no = larger-some line.value value up is.some
        in let down = is.greatest value (some line.edge line.number isnt_no)
        in record { value = larger-both line.value value up down; some = is.some }

    pub lines-reported : (line : MessageLine) → Contains lines line ↔ IsReported p P line
    lines-reported line = (
      λ has. reported line ((are.each line).0 has),
      λ is. (are.each line).1 (from-reported line is),
    )

  line-told : (edge number : ℕ) → told_value told edge number ≢ No → HasLine lines edge number
  line-told edge number some =
      let line : MessageLine = record { edge = edge; number = number; value = told_value told edge number }
      in let has = (are.each line).1 (record { value = refl; some = some })
      in (has.0, line, has.1, has.2, (refl, refl))

  -- a structure whose results are covered, and whose messages' values are told, is followed
  pub told-followed : (mode : Mode) (edge : ℕ) (s : StructureForm) (targets results : List StructureForm)
      → AreResults p mode edge s results → ((u : StructureForm) → Contains results u → IsCovered targets u)
      → ((number : ℕ) (k : K3) → IsMessageValue p edge s number k
      → larger_of k (told_value told edge number) ≡ told_value told edge number)
      → IsFollowed p mode edge s targets lines
  told-followed mode edge s targets results are_results covered values = record {
    results = (results, are_results, All-from_contains (IsCovered targets) results covered);
    messages = λ number k is some.
        line-told edge number (larger-some k (told_value told edge number) (values number k is) some);
  }
