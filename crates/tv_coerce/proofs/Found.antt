-- What was found of a rule, as what it asks for.
use Rattle.std.proofs.Common.{ℕ, ◌≡◌, ◌<◌, List, length, Some, sym, ◌∙◌}
use Rattle.std.specs.Prelude.{slice_get}
use Rattle.std.proofs.lemmas.Option.{same_Some}
use Rattle.tv_model.specs.Program.{RuleForm}
use Rattle.tv_model.specs.declared.program.Rule.{Rule}
use Rattle.tv_rules.specs.EntryForms.{rules_of}
use Rattle.tv_structure_form.specs.StructureForm.{StructureForm}
use Rattle.tv_coerce.specs.Trying.{rule_at}
use Rattle.tv_coerce.proofs.Walking.{rule-found}

module _ (closed : List Rule) (n : ℕ) (s : StructureForm) (within : n < length (rules_of closed)) where
  pub rule-is : (rule : RuleForm) → slice_get (rules_of closed) n ≡ Some rule → rule_at closed n ≡ rule
  rule-is rule at = same_Some (rule_at closed n) rule (sym (rule-found closed n within) ∙ at)
