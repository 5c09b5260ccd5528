-- Laws of coerce, as statements.
use Rattle.std.specs.Prelude.{◌≡◌, List, Option, Some, All}
use Rattle.tv_model.specs.declared.program.Program.{Program}
use Rattle.tv_model.specs.Program.{RuleForm, program_of}
use Rattle.tv_model.specs.Valid.{IsValid}
use Rattle.tv_rules.specs.Closing.{closed_rules}
use Rattle.tv_stable_laws.specs.Stable.{IsStable}
use Rattle.tv_stable_laws.specs.Laws.{IsPlainRule}
use Rattle.tv_structure_form.specs.StructureForm.{StructureForm, IsStructure, IsOver, structure_of}
use Rattle.tv_eval.specs.ScratchForm.{ScratchForm, IsMadeFor}
use Rattle.tv_coerce.specs.Coerced.{CoercesTo, CoercesHeaps}
use Rattle.tv_coerce.specs.Ready.{CanCoerce}

-- the closed rules of a valid program can be tried on structures over its vocabulary
abbrev pub ClosedRulesCanBeTried : Type 0
ClosedRulesCanBeTried =
    (program : Program) (s : StructureForm) (scratch : ScratchForm) → IsValid (program_of program)
    → IsOver program.vocab s → IsStructure s → IsMadeFor (program_of program) 256 scratch
    → CanCoerce (closed_rules (program_of program)) s scratch

-- what a structure coerces to is one, and a stable structure coerces to itself
pub record CoercingIsOne (rules : List RuleForm) (s : StructureForm) : Type 0 where
  pub one : (found other : Option StructureForm) → CoercesTo rules s found → CoercesTo rules s other
      → found ≡ other
  pub again : IsStable rules (structure_of s) → IsStructure s → (found : Option StructureForm)
      → CoercesTo rules s found → found ≡ Some s

abbrev pub CoercingIsDetermined : Type 0
CoercingIsDetermined = (rules : List RuleForm) (s : StructureForm) → CoercingIsOne rules s

-- coerce loses no heap
abbrev pub CoercingLosesNoHeap : Type 0
CoercingLosesNoHeap =
    (rules : List RuleForm) (s : StructureForm) (found : Option StructureForm) → All IsPlainRule rules
    → CoercesTo rules s found → CoercesHeaps rules s found
