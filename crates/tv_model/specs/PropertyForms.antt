-- The rules that properties stand for, one by one.
use Rattle.std.specs.Prelude.{ℕ}
use Rattle.tv_model.specs.declared.properties.Property.{Property}
use Rattle.tv_model.specs.declared.properties.Property.TheVariants.{Unique, Function, InverseFunction}
use Rattle.tv_model.specs.declared.properties.Property.TheVariants.{Transitive}
use Rattle.tv_model.specs.declared.properties.Property.TheVariants.{Reflexive, Symmetric}
use Rattle.tv_model.specs.Program.{RuleForm}
use Rattle.tv_model.specs.Rules.{unique_rule, function_rule, invfunction_rule, transitive_rule}
use Rattle.tv_model.specs.Rules.{reflexive_rule, symmetric_rule}

-- the rule that the property of the predicate p stands for
abbrev pub rule_of_property : Property → ℕ → RuleForm
rule_of_property Unique p = unique_rule p
rule_of_property Function p = function_rule p
rule_of_property InverseFunction p = invfunction_rule p
rule_of_property Transitive p = transitive_rule p
rule_of_property Reflexive p = reflexive_rule p
rule_of_property Symmetric p = symmetric_rule p
