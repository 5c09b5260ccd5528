-- What is found of a listing is found of the analysis.
use Rattle.std.proofs.Common.{ℕ, ◌≡◌, List, Result, Ok, Err, IfErr, subst}
use Rattle.std.specs.Prelude.{IfOk}
use Rattle.tv_listing.specs.declared.analysis.MessageLine.{MessageLine}
use Rattle.tv_model.specs.declared.program.Mode.{Mode}
use Rattle.tv_model.specs.Program.{ProgramForm}
use Rattle.tv_structure_form.specs.StructureForm.{StructureForm}
use Rattle.tv_work.specs.Analyzed.{IsAnalysis, IsWorkCause}
use Rattle.tv_work.specs.Reach.{IsReached}
use Rattle.tv_work.specs.declared.error.WorkError.{WorkError}
use Rattle.tv_losses.specs.Losses.{AreLosses, AreLossesIn}
use Rattle.tv_losses.specs.declared.told.Losses.{Losses}

module _ (p : ProgramForm) (mode : Mode) (initial own_initial : List StructureForm)
    (same_initial : own_initial ≡ initial) (max : ℕ) (r : Result Losses WorkError) where
  pub are-losses : (listing : List (List StructureForm)) (lines : List MessageLine)
      → IsAnalysis p mode initial max listing lines → IfOk r (AreLossesIn p mode own_initial listing)
      → IfOk r (AreLosses p mode initial max)
  are-losses listing lines analysis are = by r are
    where
      by : (r : Result Losses WorkError) → IfOk r (AreLossesIn p mode own_initial listing)
          → IfOk r (AreLosses p mode initial max)
      by (Ok losses) are = record {
        listing = listing;
        lines = lines;
        analysis = analysis;
        are = subst (λ ss. AreLossesIn p mode ss listing losses) same_initial are;
      }
      by (Err e) are = tt

  pub work-cause : IfErr r (λ e. (most : ℕ) → IsWorkCause p most (IsReached p mode own_initial) e)
      → IfErr r (IsWorkCause p max (IsReached p mode initial))
  work-cause causes = by r causes
    where
      by : (r : Result Losses WorkError)
          → IfErr r (λ e. (most : ℕ) → IsWorkCause p most (IsReached p mode own_initial) e)
          → IfErr r (IsWorkCause p max (IsReached p mode initial))
      by (Ok losses) causes = tt
      by (Err e) causes =
          subst (λ ss. IsWorkCause p max (IsReached p mode ss) e) same_initial (causes max)
