-- What coerce answers is what a step does with a structure.
use Rattle.std.proofs.Common.{◌≡◌, ◌∙◌, List, [], ◌∷◌, ◌++◌, Option, None, Some, inl, inr, refl, sym, subst}
use Rattle.std.specs.Prelude.{Result, Ok, Err, OnOk, is_ok, if◌then◌else◌}
use Rattle.tv_model.specs.Program.{ProgramForm, RuleForm}
use Rattle.tv_stable_laws.specs.Stable.{IsGreatestStable, HasNoStable}
use Rattle.tv_rules.specs.Closing.{closed_rules}
use Rattle.tv_rules.specs.EntryForms.{rules_of}
use Rattle.tv_structure_form.specs.StructureForm.{StructureForm, IsStructure, structure_of}
use Rattle.tv_eval.specs.ScratchForm.{ScratchForm}
use Rattle.tv_coerce.specs.Ready.{CanCoerce}
use Rattle.tv_coerce.proofs.Ready.{closed_rules_can_be_tried}
use Rattle.tv_step.specs.declared.setting.Setting.{Setting}
use Rattle.tv_step.specs.Setting.{form_in, IsReadyToStep}
use Rattle.tv_step_laws.proofs.Shapes.{shaped-over}
use Rattle.tv_coerce.specs.Coerced.{IsCoercedTable, CoercesTo}
use Rattle.tv_step_laws.specs.Shaped.{IsShaped}
use Rattle.tv_step_laws.specs.Transfer.{Coerces, IsCoerced}
use Rattle.tv_step.specs.Steps.{Adds}

-- the rules of a setting can be tried
pub can-coerce : (x : Setting) (s : StructureForm) (scratch : ScratchForm) → IsReadyToStep x scratch
    → IsShaped (form_in x) s
    → IsStructure s → CanCoerce (rules_of x.closed.now) s scratch
can-coerce x s scratch ready shaped is =
    subst (λ rules. CanCoerce rules s scratch) (sym ready.rules)
    (closed_rules_can_be_tried x.program.now s scratch ready.valid
    (shaped-over x.program.now s shaped) is ready.room)

pub none-coerces : (p : ProgramForm) (rules : List RuleForm) (s : StructureForm)
    (found : Option StructureForm)
    → rules ≡ closed_rules p → CoercesTo rules s found → found ≡ None → Coerces p s []
none-coerces p rules s found same to is =
    let none : HasNoStable rules (structure_of s) = subst (CoercesTo rules s) is to
    in inl (subst (λ rs. HasNoStable rs (structure_of s)) same none, refl)

-- a coerced table is what a structure is coerced to
pub table-coerced : (p : ProgramForm) (rules : List RuleForm) (s t : StructureForm)
    → rules ≡ closed_rules p → IsShaped p s → IsCoercedTable rules s t → IsCoerced p s t
table-coerced p rules s t same shaped table = record {
  greatest = subst (λ rs. IsGreatestStable rs (structure_of s) (structure_of t)) same table.greatest;
  shaped = record {
    over = table.over ∙ shaped.over;
    planes = table.is.table.planes;
    summaries = table.is.summaries;
  };
  mark = table.mark;
}

pub some-coerces : (p : ProgramForm) (rules : List RuleForm) (s : StructureForm)
    (found : Option StructureForm) (t : StructureForm)
    → rules ≡ closed_rules p → IsShaped p s → CoercesTo rules s found → found ≡ Some t → Coerces p s (t ∷ [])
some-coerces p rules s found t same shaped to is =
    let table : IsCoercedTable rules s t = subst (CoercesTo rules s) is to
    in inr (
      t,
      table-coerced p rules s t same shaped table,
      refl,
    )

-- what is pushed is put behind the others
pub push-adds : {X Y U E : Type 0} (R : X → List Y → Type 0) (x : X) (r : Result U E) (old new : List Y)
    (y : Y)
    → R x (y ∷ []) → new ≡ (if is_ok r then old ++ y ∷ [] else old) → OnOk r (Adds R x old new)
push-adds R x (Ok u) old new y made is = (y ∷ [], made, is)
push-adds R x (Err e) old new y made is = tt
