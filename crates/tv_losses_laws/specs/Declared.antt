-- The declaration that alone loses a case.
use Rattle.std.specs.Prelude.{ℕ, List, [], Option, None, Some, All, slice_get}
use Rattle.tv_model.specs.declared.program.Mode.{Mode}
use Rattle.tv_model.specs.Program.{ProgramForm, PredForm, RuleForm, ActionForm}
use Rattle.tv_model.specs.Rules.{property_rules}
use Rattle.tv_losses_unmet.specs.Unmet.{IsUnmet, listed}
use Rattle.tv_losses_unmet.specs.declared.claim.Claim.{Claim}
use Rattle.tv_losses_unmet.specs.declared.claim.Claim.TheVariants.{Predicate, Rule}
use Rattle.tv_structure_form.specs.StructureForm.{StructureForm}
use Rattle.tv_step_laws.specs.Transfer.{GivesStructures, IsActionOf}
use Rattle.tv_losses_laws.specs.Cases.{CaseForm, IsSureCase}

abbrev pub properties_of : (q : ℕ) → Option PredForm → List RuleForm
properties_of q None = []
properties_of q (Some d) = property_rules q d.props

-- the rules that are declared there: of a predicate those of its properties, since its definition holds in
-- each concrete heap
abbrev pub rules_declared : ProgramForm → Claim → List RuleForm
rules_declared p (Predicate q) = properties_of q.0 (slice_get p.preds q.0)
rules_declared p (Rule number) = listed (slice_get p.rules number)

-- the declaration alone drops each structure that the update gives
pub record IsDroppedBy (p : ProgramForm) (mode : Mode) (action : ActionForm) (c : CaseForm) (claim : Claim)
    : Type 0 where
  pub given : List StructureForm
  pub are_given : GivesStructures p mode action c.at_hand c.picked given
  pub unmet : All (λ t. IsUnmet p t claim) given

-- a case of s that the declaration alone loses along the edge
pub record IsLostBy (p : ProgramForm) (mode : Mode) (edge : ℕ) (s : StructureForm) (c : CaseForm)
    (claim : Claim) : Type 0 where
  pub action : ActionForm
  pub its_action : IsActionOf p edge action
  pub is_case : IsSureCase p action s c
  pub dropped : IsDroppedBy p mode action c claim
