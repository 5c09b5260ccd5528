-- What coerce and blur answer is what comes of a structure at a stage.
use Rattle.std.proofs.Common.{◌≡◌, ◌∙◌, List, [], ◌∷◌, Option, None, Some, sym, ap, subst}
use Rattle.std.proofs.lemmas.List.Elements.{All-nil, All-cons}
use Rattle.tv_model.specs.declared.program.Program.{Program}
use Rattle.tv_model.specs.Program.{ProgramForm, RuleForm, pred_of, program_of}
use Rattle.tv_model.specs.Valid.{program_arities}
use Rattle.tv_model.proofs.Lists.{map-compose}
use Rattle.tv_rules.specs.Closing.{closed_rules}
use Rattle.tv_structure_form.specs.StructureForm.{StructureForm, IsStructure, arities_of, kept_from}
use Rattle.tv_blur.specs.Blur.{IsBlur}
use Rattle.tv_blur.specs.Names.{abstraction_preds}
use Rattle.tv_coerce.specs.Coerced.{IsCoercedTable, CoercesTo}
use Rattle.tv_step_laws.specs.Shaped.{IsShaped, is_telling, telling_preds}
use Rattle.tv_step_laws.specs.Transfer.{Coerces, IsBlurOf}
use Rattle.tv_step_laws.proofs.Settled.{stable-coerces}
use Rattle.tv_step.specs.declared.coerced.Ending.{Ending}
use Rattle.tv_step.specs.declared.coerced.Ending.TheVariants.{Open, Blurred}
use Rattle.tv_step.specs.Ending.{Becomes, IsEndOf}
use Rattle.tv_step.specs.Setting.{IsStableIn}
use Rattle.tv_step.proofs.Coercing.{none-coerces}

pub same-preds : (program : Program) → telling_preds (program_of program) ≡ abstraction_preds program.vocab
same-preds program = ap (kept_from 0) (map-compose pred_of is_telling program.vocab.preds)

pub coerced-over : (rules : List RuleForm) (s : StructureForm) (found : Option StructureForm)
    (t : StructureForm)
    → CoercesTo rules s found → found ≡ Some t → arities_of t ≡ arities_of s
coerced-over rules s found t to is =
    let table : IsCoercedTable rules s t = subst (CoercesTo rules s) is to in table.over

pub none-becomes : (ending : Ending) (p : ProgramForm) (rules : List RuleForm) (s : StructureForm)
    (found : Option StructureForm)
    → rules ≡ closed_rules p → CoercesTo rules s found → found ≡ None → Becomes ending p s []
none-becomes Open p rules s found same to is = none-coerces p rules s found same to is
none-becomes Blurred p rules s found same to is =
    (([], none-coerces p rules s found same to is, tt), All-nil IsStructure)

pub some-becomes : (ending : Ending) (program : Program) (s t u : StructureForm)
    → Coerces (program_of program) s (t ∷ []) → arities_of t ≡ program_arities (program_of program)
    → IsEndOf ending program t u → Becomes ending (program_of program) s (u ∷ [])
some-becomes Open program s t u coerced over end =
    subst (λ (w : StructureForm). Coerces (program_of program) s (w ∷ [])) (sym end) coerced
some-becomes Blurred program s t u coerced over (blur, kept) =
    let blurred : IsBlurOf (program_of program) t u
    = (
      record {
        over = blur.1.over ∙ over;
        planes = kept.table.planes;
        summaries = kept.summaries;
      },
      subst (λ preds. IsBlur preds t u) (sym (same-preds program)) blur,
    )
    in ((t ∷ [], coerced, (blurred, tt)), All-cons IsStructure u [] kept (All-nil IsStructure))

-- a stable structure is what coerce makes of it
pub itself-becomes : (ending : Ending) (program : Program) (s u : StructureForm)
    → IsShaped (program_of program) s → IsStableIn (program_of program) s → IsEndOf ending program s u
    → Becomes ending (program_of program) s (u ∷ [])
itself-becomes ending program s u shaped stable end =
    some-becomes ending program s s u (stable-coerces (program_of program) s shaped stable) shaped.over end
