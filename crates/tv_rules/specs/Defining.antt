-- The closed rules that came of a predicate's definition: they are met wherever the predicate has the values
-- of its definition.
use Rattle.std.specs.Prelude.{ℕ, ◌≡◌, ◌<◌, List, length, map, Some, All, Contains, slice_get}
use Rattle.tv_model.specs.Form.{FAtom}
use Rattle.tv_model.specs.Program.{KindForm, KCore, KDefined, RuleForm, rule_of}
use Rattle.tv_model.specs.declared.program.Rule.{Rule}
use Rattle.tv_model.specs.Truth.{Assignment}
use Rattle.tv_embedding_laws.specs.LogicalStructure.{LogicalStructure}
use Rattle.tv_eval_laws.specs.Value.{value}
use Rattle.tv_stable_laws.specs.Stable.{IsStableUnder}
use Rattle.tv_rules.specs.Closing.{definition_rules, dropped_rule}
use Rattle.tv_rules.specs.EntryForms.{rules_of}
use Rattle.tv_rules.specs.Kin.{base_of}

-- n is the number of a closed rule that came of one of the two rules of the definition of q
pub record IsOfDefinition (bases : List Rule) (q : ℕ) (kind : KindForm) (n : ℕ) : Type 0 where
  pub within : n < length (rules_of bases)
  pub base : RuleForm
  pub there : slice_get (map rule_of bases) (base_of bases n) ≡ Some base
  pub of : Contains (map dropped_rule (definition_rules q kind)) base

-- the predicate has the values of its definition in the structure, for any individuals
abbrev pub HasDefinedValues : LogicalStructure → (q : ℕ) → KindForm → Type 0
HasDefinedValues s q KCore = Unit {0}
HasDefinedValues s q (KDefined vars body) =
    (a : Assignment) → All (λ v. Contains s.individuals (a v)) vars
    → value s a (FAtom q vars) ≡ value s a body

-- where it has, the structure is stable under the rules that came of the definition
abbrev pub DefinedValuesAreStable : Type 0
DefinedValuesAreStable =
    (bases : List Rule) (q : ℕ) (kind : KindForm) (n : ℕ) → IsOfDefinition bases q kind n
    → (s : LogicalStructure) → HasDefinedValues s q kind
    → (rule : RuleForm) → slice_get (rules_of bases) n ≡ Some rule → IsStableUnder s rule
