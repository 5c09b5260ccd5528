-- Which declaration alone leaves no stable structure below a structure.
use Rattle.std.specs.Prelude.{ℕ, ◌<◌, List, [], ◌∷◌, map, Option, None, Some, All, slice_get}
use Rattle.tv_model.specs.Program.{ProgramForm, PredForm, RuleForm}
use Rattle.tv_rules.specs.Closing.{closed_rules, closed_set, dropped_rule, pred_rules}
use Rattle.tv_stable_laws.specs.Stable.{HasNoStable}
use Rattle.tv_structure_form.specs.StructureForm.{StructureForm, structure_of}
use Rattle.tv_losses_unmet.specs.declared.claim.Claim.{Claim}
use Rattle.tv_losses_unmet.specs.declared.claim.Claim.TheVariants.{Predicate, Rule}

abbrev pub rules_of_pred : (q : ℕ) → Option PredForm → List RuleForm
rules_of_pred q None = []
rules_of_pred q (Some d) = pred_rules q d

abbrev pub listed : Option RuleForm → List RuleForm
listed None = []
listed (Some rule) = rule ∷ []

-- the base rules of a declaration: of a predicate those of its properties and its definition
abbrev pub rules_of_claim : ProgramForm → Claim → List RuleForm
rules_of_claim p (Predicate q) = rules_of_pred q.0 (slice_get p.preds q.0)
rules_of_claim p (Rule number) = listed (slice_get p.rules number)

-- the closed rules of a declaration alone
abbrev pub closed_alone : ProgramForm → Claim → List RuleForm
closed_alone p claim = closed_set (map dropped_rule (rules_of_claim p claim))

-- the structure contradicts the declaration: no structure below it is stable under that alone
abbrev pub IsUnmet : ProgramForm → StructureForm → Claim → Type 0
IsUnmet p s claim = HasNoStable (closed_alone p claim) (structure_of s)

-- predicates come before rules, each in their order
abbrev pub IsBefore : (earlier later : Claim) → Type 0
IsBefore (Predicate q) (Predicate r) = q.0 < r.0
IsBefore (Predicate q) (Rule number) = Unit {0}
IsBefore (Rule number) (Predicate q) = ⊥
IsBefore (Rule number) (Rule other) = number < other

-- it is so of none of the declarations before this one
abbrev pub IsSoOfNoneBefore : (Claim → Type 0) → Claim → Type 0
IsSoOfNoneBefore P claim = (other : Claim) → IsBefore other claim → ¬ P other

-- what is found is the first declaration of which it is so, or none where it is so of none
abbrev pub IsFirstOf : (Claim → Type 0) → Option Claim → Type 0
IsFirstOf P None = (claim : Claim) → ¬ P claim
IsFirstOf P (Some claim) = P claim × IsSoOfNoneBefore P claim

-- it is the first declaration that the structure contradicts, or none where it contradicts none
abbrev pub IsFound : ProgramForm → StructureForm → Option Claim → Type 0
IsFound p s = IsFirstOf (IsUnmet p s)

-- each of the structures contradicts the declaration
abbrev pub IsUnmetByEach : ProgramForm → (structures : List StructureForm) → Claim → Type 0
IsUnmetByEach p structures claim = All (λ s. IsUnmet p s claim) structures

-- what contradicts a declaration alone has no stable structure below it under all rules of the program
abbrev pub UnmetLeavesNone : Type 0
UnmetLeavesNone = (p : ProgramForm) (s : StructureForm) (claim : Claim) → IsUnmet p s claim
    → HasNoStable (closed_rules p) (structure_of s)
