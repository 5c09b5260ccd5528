-- The closed rules of each declaration, as they are kept, and how they are tried.
use Rattle.std.specs.Prelude.{ℕ, ◌≡◌, ◌<◌, List, length, Option, None, Some, All, slice_get}
use Rattle.tv_coerce.specs.Ready.{CanCoerce}
use Rattle.tv_eval.specs.ScratchForm.{ScratchForm, IsMadeFor}
use Rattle.tv_model.specs.Program.{ProgramForm, RuleForm, program_of}
use Rattle.tv_model.specs.Valid.{IsValid}
use Rattle.tv_model.specs.declared.program.Program.{Program}
use Rattle.tv_model.specs.declared.program.Rule.{Rule as Declaration}
use Rattle.tv_rules.specs.EntryForms.{rules_of}
use Rattle.tv_stable_laws.specs.Stable.{HasNoStable}
use Rattle.tv_structure_form.specs.StructureForm.{StructureForm, IsOver, IsStructure, structure_of}
use Rattle.tv_losses_unmet.specs.Alone.{alone}
use Rattle.tv_losses_unmet.specs.Unmet.{closed_alone}
use Rattle.tv_losses_unmet.specs.declared.claim.Claim.{Claim}
use Rattle.tv_losses_unmet.specs.declared.claim.Claim.TheVariants.{Predicate, Rule}

-- what is declared of the predicate of this number
abbrev pub of_pred : ℕ → Claim
of_pred q = Predicate (record { 0 = q })

-- the rule of this number
abbrev pub of_rule : ℕ → Claim
of_rule number = Rule number

-- at each number are the closed rules of the declaration of that number alone, by their base rules
abbrev pub AreClosedAlone : ProgramForm → (numbered : ℕ → Claim) → List (List Declaration) → Type 0
AreClosedAlone p numbered lists =
    (number : ℕ) (bases : List Declaration) → slice_get lists number ≡ Some bases
    → rules_of bases ≡ closed_alone p (numbered number)

-- they are those of all predicates and of all rules, and the scratch was made for the program, which is valid
pub record AreDeclared (program : Program) (preds rules : List (List Declaration)) (scratch : ScratchForm)
    : Type 0 where
  pub valid : IsValid (program_of program)
  pub pred_count : length preds ≡ length program.vocab.preds
  pub rule_count : length rules ≡ length program.rules
  pub are_preds : AreClosedAlone (program_of program) of_pred preds
  pub are_rules : AreClosedAlone (program_of program) of_rule rules
  pub room : IsMadeFor (program_of program) 256 scratch

-- the program makes some rule alone
abbrev pub IsOfRule : ProgramForm → ProgramForm → Type 0
IsOfRule p made = (number : ℕ) × (made ≡ alone (Rule number) p)

-- the rules can be tried on each structure over the program's vocabulary
abbrev pub CanTryOver : Program → ScratchForm → List RuleForm → Type 0
CanTryOver program scratch rules =
    (s : StructureForm) → IsOver program.vocab s → IsStructure s → CanCoerce rules s scratch

-- the rules drop each of the structures: nothing below any of them is stable
abbrev pub DropEach : (structures : List StructureForm) → List RuleForm → Type 0
DropEach structures rules = All (λ s. HasNoStable rules (structure_of s)) structures

-- it is the number of the first of the lists whose rules do so, or none where none do
abbrev pub IsFirstToDrop : (structures : List StructureForm) → List (List Declaration) → Option ℕ → Type 0
IsFirstToDrop structures lists None =
    (k : ℕ) (bases : List Declaration) → slice_get lists k ≡ Some bases
    → ¬ DropEach structures (rules_of bases)
IsFirstToDrop structures lists (Some number) =
    (number < length lists)
    × ((k : ℕ) (bases : List Declaration) → k < number → slice_get lists k ≡ Some bases
    → ¬ DropEach structures (rules_of bases))
    × ((bases : List Declaration) → slice_get lists number ≡ Some bases
    → DropEach structures (rules_of bases))
