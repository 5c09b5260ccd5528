-- Where all individuals stay and none is marked, the structure stays as it is.
use Rattle.std.proofs.Common.{ℕ, ◌≡◌, ◌∙◌, ◌+◌, true, false, Bool, List, [], ◌∷◌, length, map, replicate}
use Rattle.std.proofs.Common.{None, refl, sym, ap, subst, zero, suc}
use Rattle.std.specs.Prelude.{IsTrue}
use Rattle.std.specs.List.{AllByRecursion, range_with_len}
use Rattle.std.proofs.lemmas.List.{length-replicate}
use Rattle.std.proofs.lemmas.List.FromFn.{length-range_with_len}
use Rattle.tv_structure_form.specs.TableForm.{plane_drawn, selected}
use Rattle.tv_structure_form.specs.StructureForm.{StructureForm, IsStructure, kept_from, without}
use Rattle.tv_model.specs.Program.{ProgramForm}
use Rattle.tv_struct.proofs.WholeDraws.{all-selected, planes-themselves}
use Rattle.tv_update.specs.Defined.{AreEvaluated}
use Rattle.tv_update.specs.New.{AreFinished}

-- all flags are kept
all-kept : (n : ℕ) (flags : List Bool) → AllByRecursion IsTrue flags → kept_from n flags ≡ range_with_len n (length flags)
all-kept n [] all = refl
all-kept n (true ∷ flags) (on, rest) = ap (λ us. n ∷ us) (all-kept (n + 1) flags rest)
all-kept n (false ∷ flags) (on, rest) = absurd (cc on)

pub whole_stays : (s : StructureForm) (flags : List Bool) → IsStructure s → s.fresh ≡ None → length flags ≡ s.size
    → AllByRecursion IsTrue flags → s ≡ without s flags
whole_stays s flags is unmarked count all =
    let origins : kept_from 0 flags ≡ range_with_len 0 s.size
    = all-kept 0 flags all ∙ ap (range_with_len 0) count
    in let size : length (kept_from 0 flags) ≡ s.size = ap length origins ∙ length-range_with_len 0 s.size
    in let summaries : selected false s.summaries (kept_from 0 flags) ≡ s.summaries
    = ap (selected false s.summaries) origins ∙ all-selected false s.summaries s.size is.summaries
    in let planes : map (plane_drawn (kept_from 0 flags)) s.planes ≡ s.planes
    = ap (λ us. map (plane_drawn us) s.planes) origins ∙ planes-themselves s.size s.planes is.table.planes
    in λ i. record {
      size = sym size i;
      summaries = sym summaries i;
      planes = sym planes i;
      fresh = unmarked i;
    }

all-set : (n : ℕ) → AllByRecursion IsTrue (replicate n true)
all-set zero = tt
all-set (suc n) = (refl, all-set n)

-- what is made of the updated structure is what is made of all its individuals
pub whole_finished : (p : ProgramForm) (order : List ℕ) (updated t : StructureForm) → IsStructure updated
    → updated.fresh ≡ None → IsStructure t → AreEvaluated p order updated t
    → AreFinished p order updated (replicate updated.size true ∷ []) (t ∷ [])
whole_finished p order updated t is unmarked of done = (
  record {
    is = of;
    evaluated = subst (λ s. AreEvaluated p order s t)
        (whole_stays updated (replicate updated.size true) is unmarked
        (length-replicate updated.size true) (all-set updated.size)) done;
  },
  tt,
)
