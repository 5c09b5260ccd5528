-- What coerce and blur answer is the opening.
use Rattle.std.proofs.Common.{◌≡◌, ◌∙◌, List, Option, None, Some, sym, ap, subst}
use Rattle.tv_model.specs.declared.program.Program.{Program}
use Rattle.tv_model.specs.Program.{RuleForm, program_of}
use Rattle.tv_model.specs.Valid.{IsValid}
use Rattle.tv_rules.specs.Closing.{closed_rules}
use Rattle.tv_stable_laws.specs.Stable.{HasNoStable}
use Rattle.tv_structure_form.specs.StructureForm.{StructureForm, IsStructure, structure_of}
use Rattle.tv_blur.specs.Blur.{IsBlur}
use Rattle.tv_blur.specs.Names.{abstraction_preds}
use Rattle.tv_coerce.specs.Coerced.{IsCoercedTable, CoercesTo}
use Rattle.tv_step_laws.specs.Shaped.{IsShaped}
use Rattle.tv_step_laws.specs.Transfer.{IsOpening, HasNoOpening}
use Rattle.tv_step_laws.proofs.Exact.{opening-once}
use Rattle.tv_step_laws.proofs.Heaps.{opening-heap}
use Rattle.tv_step.specs.Starts.{HasStarts}
use Rattle.tv_step.proofs.Coercing.{table-coerced}
use Rattle.tv_step.proofs.Finishing.{same-preds}

pub no-opening : (program : Program) (rules : List RuleForm) (s : StructureForm)
    (found : Option StructureForm)
    → rules ≡ closed_rules (program_of program) → CoercesTo rules s found → found ≡ None
    → HasNoOpening (program_of program) s
no-opening program rules s found same to is =
    subst (λ rs. HasNoStable rs (structure_of s)) same (subst (CoercesTo rules s) is to)

pub none-only : (program : Program) (s t : StructureForm) → HasNoOpening (program_of program) s
    → IsOpening (program_of program) s t
    → None ≡ Some t
none-only program s t none (c, coerced, blur) =
    absurd (none (structure_of c) coerced.greatest.below coerced.greatest.stable)

pub none-starts : (program : Program) → IsValid (program_of program) → (s : StructureForm)
    → HasNoOpening (program_of program) s
    → HasStarts (program_of program) s None
none-starts program valid s none h is =
    (opening-heap (program_of program) valid h is.start s is.embeds).0 none

pub some-opening : (program : Program) (rules : List RuleForm) (s : StructureForm)
    (found : Option StructureForm) (t u : StructureForm)
    → rules ≡ closed_rules (program_of program) → IsShaped (program_of program) s → CoercesTo rules s found
    → found ≡ Some t
    → IsBlur (abstraction_preds program.vocab) t u → IsStructure u → IsOpening (program_of program) s u
some-opening program rules s found t u same shaped to is blur kept =
    let table : IsCoercedTable rules s t = subst (CoercesTo rules s) is to
    in (
      t,
      table-coerced (program_of program) rules s t same shaped table,
      (
        record {
          over = blur.1.over ∙ table.over ∙ shaped.over;
          planes = kept.table.planes;
          summaries = kept.summaries;
        },
        subst (λ preds. IsBlur preds t u) (sym (same-preds program)) blur,
      ),
    )

pub some-only : (program : Program) (s u t : StructureForm) → IsOpening (program_of program) s u
    → IsOpening (program_of program) s t
    → Some u ≡ Some t
some-only program s u t one other = ap Some (opening-once (program_of program) s u t one other)

pub some-starts : (program : Program) → IsValid (program_of program) → (s t : StructureForm)
    → IsOpening (program_of program) s t
    → HasStarts (program_of program) s (Some t)
some-starts program valid s t opening h is =
    ((opening-heap (program_of program) valid h is.start s is.embeds).1 t opening).1
