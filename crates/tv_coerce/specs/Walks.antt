-- Under which assignments a walk over a rule's variables tries the rule.
use Rattle.std.specs.Prelude.{ℕ, ◌≡◌, ◌<◌, ◌≤◌, ◌+◌, ◌*◌, List}
use Rattle.tv_kleene.specs.declared.K3.TheVariants.{Yes}
use Rattle.tv_model.specs.Program.{RuleForm}
use Rattle.tv_model.specs.Rules.{IsOfIndividuals}
use Rattle.tv_model.specs.Truth.{Assignment}
use Rattle.tv_eval_laws.specs.Value.{value}
use Rattle.tv_rules.specs.Kin.{IsKin}
use Rattle.tv_stable_laws.specs.Stable.{IsHeadMet}
use Rattle.tv_structure_form.specs.StructureForm.{StructureForm, structure_of}
use Rattle.tv_coerce.specs.Counting.{variables_in}
use Rattle.tv_coerce.specs.Trying.{GoesOn, rule_at}
use Rattle.tv_coerce.specs.declared.trial.Trial.{Trial}

-- the structure is stable under each of those assignments, as far as they are of individuals
abbrev pub IsTriedFor : StructureForm → RuleForm → (Those : Assignment → Type 0) → Type 0
IsTriedFor s rule Those =
    (b : Assignment) → Those b → IsOfIndividuals (structure_of s).individuals rule b
    → value (structure_of s) b rule.body ≡ Yes → IsHeadMet (structure_of s) b rule.head

-- it is so for each rule that came of the trial's base rule
abbrev pub AreTriedFor : Trial → (Those : Assignment → Type 0) → Type 0
AreTriedFor trial Those =
    (n : ℕ) → IsKin trial.closed.now trial.number n
    → IsTriedFor trial.structure.now (rule_at trial.closed.now n) Those

-- the head of each is met under the assignment where its body is Yes
abbrev pub AreMet : Trial → Assignment → Type 0
AreMet trial b =
    (n : ℕ) → IsKin trial.closed.now trial.number n
    → value (structure_of trial.structure.now) b (rule_at trial.closed.now n).body ≡ Yes
    → IsHeadMet (structure_of trial.structure.now) b (rule_at trial.closed.now n).head

-- the variable has an individual from `from` on, below `end`
abbrev pub IsBetween : (v from end : ℕ) → Assignment → Type 0
IsBetween v from end b = (from ≤ b v) × (b v < end)

-- the variable has one of the individuals from 64 * chunk on, at most 64
abbrev pub IsInChunk : (v chunk : ℕ) → Assignment → Type 0
IsInChunk v chunk b = IsBetween v (64 * chunk) (64 * chunk + 64) b

-- b goes on from a, and the last variable is in the chunk
abbrev pub GoesOnIn : Trial → (rest : List ℕ) → (a b : Assignment) → Type 0
GoesOnIn trial rest a b = GoesOn (variables_in trial) rest a b × IsInChunk trial.last.0 trial.chunk b

-- any assignment
abbrev pub IsAny : Assignment → Type 0
IsAny b = Unit {0}
