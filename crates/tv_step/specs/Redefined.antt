-- Definitions that were evaluated anew, and the rules that are met by that.
use Rattle.std.specs.Prelude.{ℕ, ◌≡◌, ◌<◌, List, [], length, map, Some, Contains, slice_get, unwrap_or}
use Rattle.tv_model.specs.Program.{ProgramForm, RuleForm}
use Rattle.tv_model.specs.declared.program.Rule.{Rule}
use Rattle.tv_embedding_laws.specs.LogicalStructure.{LogicalStructure}
use Rattle.tv_rules.specs.Defining.{HasDefinedValues, IsOfDefinition}
use Rattle.tv_stable_laws.specs.Stable.{IsStableUnder}
use Rattle.tv_structure_form.specs.StructureForm.{StructureForm, structure_of}
use Rattle.tv_update_laws.specs.Applied.{kind_at}
use Rattle.tv_step.specs.declared.changed.Redefined.{Redefined}

-- the number is in the list of the predicate, if there is one
abbrev pub IsListed : List (List ℕ) → (q n : ℕ) → Type 0
IsListed lists q n = Contains (unwrap_or (slice_get lists q) []) n

-- the numbers listed by a predicate are those of rules that came of its definition
abbrev pub AreOfDefinitions : ProgramForm → List Rule → List (List ℕ) → Type 0
AreOfDefinitions p bases lists = (q n : ℕ) → IsListed lists q n → IsOfDefinition bases q (kind_at p q) n

-- where a predicate has the values of its definition, each rule that is listed by it is met
pub record AreDefining (p : ProgramForm) (rules : List RuleForm) (lists : List (List ℕ)) : Type 0 where
  pub within : (q n : ℕ) → IsListed lists q n → n < length rules
  pub met : (q n : ℕ) → IsListed lists q n → (s : LogicalStructure) → HasDefinedValues s q (kind_at p q)
      → (rule : RuleForm) → slice_get rules n ≡ Some rule → IsStableUnder s rule

-- the number is listed by one of the predicates that were evaluated anew
abbrev pub IsOfRedefined : Redefined → ℕ → Type 0
IsOfRedefined r n = (q : ℕ) × Contains (map (λ p. p.0) r.preds.now) q × IsListed r.defining.now q n

-- the rules that are listed so are met in the structure
abbrev pub IsMetBy : Redefined → List RuleForm → StructureForm → Type 0
IsMetBy r rules s =
    (n : ℕ) → IsOfRedefined r n → (n < length rules)
    × ((rule : RuleForm) → slice_get rules n ≡ Some rule → IsStableUnder (structure_of s) rule)
