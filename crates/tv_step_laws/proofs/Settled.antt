-- What openings and steps give is settled, and coerce leaves it as it is.
use Rattle.std.proofs.Common.{ℕ, List, [], ◌∷◌, inl, inr, ⊎_elim, refl, subst, Contains}
use Rattle.tv_model.specs.declared.program.Mode.{Mode}
use Rattle.tv_model.specs.Program.{ProgramForm}
use Rattle.tv_model.specs.Valid.{IsValid}
use Rattle.tv_model.proofs.Lists.{Contains-cases, Contains-none}
use Rattle.tv_embedding_laws.proofs.EmbeddingLaws.{EmbedsOn-id}
use Rattle.tv_stable_laws.specs.Stable.{IsStable, IsGreatestStable}
use Rattle.tv_rules.specs.Closing.{closed_rules}
use Rattle.tv_rules.proofs.Ranges.{rules_are_plain}
use Rattle.tv_structure_form.specs.StructureForm.{StructureForm, IsStructure, structure_of}
use Rattle.tv_blur.proofs.BlurLaws.{blur_stable, keeps_names}
use Rattle.tv_step_laws.specs.Settled.{IsSettled}
use Rattle.tv_step_laws.specs.Shaped.{IsShaped, telling_preds}
use Rattle.tv_step_laws.specs.Transfer.{Coerces, IsBlurOf, Finishes, Steps, AreResults, IsOpening}
use Rattle.tv_step_laws.proofs.From.{IsMade, from-back, zip-back}

-- the blur of a stable structure is settled, where it isn't too large for a table
pub blur-settled : (p : ProgramForm) → IsValid p → (s t : StructureForm)
    → IsStable (closed_rules p) (structure_of s)
    → IsBlurOf p s t → IsStructure t → IsSettled p t
blur-settled p valid s t stable (shaped, blur) is = record {
  is = is;
  shaped = shaped;
  stable = blur_stable (telling_preds p) s t (closed_rules p) blur (rules_are_plain p valid) stable;
  blurred = (keeps_names blur.0 (telling_preds p) s t blur.1).blurred;
}

pub opening-settled : (p : ProgramForm) → IsValid p → (s t : StructureForm) → IsOpening p s t → IsStructure t
    → IsSettled p t
opening-settled p valid s t (c, coerced, blur) is = blur-settled p valid c t coerced.greatest.stable blur is

coerces-stable : (p : ProgramForm) (s : StructureForm) (cs : List StructureForm) → Coerces p s cs
    → (c : StructureForm)
    → Contains cs c → IsStable (closed_rules p) (structure_of c)
coerces-stable p s cs (inl (none, is)) c at = absurd (Contains-none c (subst (λ us. Contains us c) is at))
coerces-stable p s cs (inr (d, coerced, is)) c at =
    ⊎_elim
    (λ e. subst (λ x. IsStable (closed_rules p) (structure_of x)) e coerced.greatest.stable)
    (λ none. absurd (Contains-none c none))
    (Contains-cases d c [] (subst (λ us. Contains us c) is at))

finishes-settled : (p : ProgramForm) → IsValid p → (s : StructureForm) (ts : List StructureForm)
    → Finishes p s ts
    → (t : StructureForm) → Contains ts t → IsStructure t → IsSettled p t
finishes-settled p valid s ts (cs, coerces, zip) t at is =
    let from : (c : StructureForm) × Contains cs c × IsBlurOf p c t = zip-back (IsBlurOf p) cs ts zip t at
    in blur-settled p valid from.0 t (coerces-stable p s cs coerces from.0 from.1) from.2 is

pub result-settled : (p : ProgramForm) → IsValid p
    → (mode : Mode) (edge : ℕ) (s : StructureForm) (results : List StructureForm)
    → AreResults p mode edge s results → (t : StructureForm) → Contains results t → IsStructure t
    → IsSettled p t
result-settled p valid mode edge s results are t at is =
    let step : IsMade (Steps p mode are.action) are.at_hand t
    = from-back (Steps p mode are.action) are.at_hand are.given are.are_given t ((are.same t).0 at)
    in let end : IsMade (Finishes p) step.made.0 t
    = from-back (Finishes p) step.made.0 step.own step.made.2 t step.at
    in finishes-settled p valid end.from end.own end.made t end.at is

-- a stable structure is the greatest stable one below it
pub stable-coerces : (p : ProgramForm) (s : StructureForm) → IsShaped p s
    → IsStable (closed_rules p) (structure_of s)
    → Coerces p s (s ∷ [])
stable-coerces p s shaped stable = inr (s, record { greatest = greatest; shaped = shaped; mark = refl }, refl)
  where
    greatest : IsGreatestStable (closed_rules p) (structure_of s) (structure_of s)
    greatest = record {
      below = (refl, EmbedsOn-id (λ pred. Unit {0}) (structure_of s));
      stable = stable;
      greatest = λ u below is. below;
    }
