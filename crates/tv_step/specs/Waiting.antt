-- Which rules an action may leave unmet in a structure that was stable.
use Rattle.std.specs.Prelude.{ℕ, ◌≡◌, ◌<◌, true, false, Bool, List, length, map, replicate, Some, Contains}
use Rattle.std.specs.Prelude.{slice_get, All}
use Rattle.tv_model.specs.Form.{Form, Mentions}
use Rattle.tv_model.specs.Program.{ProgramForm, RuleForm, ActionForm, KCore}
use Rattle.tv_rules.specs.Standing.{StandsIn, SeesSummaries}
use Rattle.tv_update_laws.specs.Applied.{kind_at, moves_individuals}
use Rattle.tv_coerce.specs.RuleSets.{IsIn}
use Rattle.tv_update.specs.Plan.{IsDefined}
use Rattle.tv_coerce_sets.specs.declared.found.Kept.{Kept}
use Rattle.tv_step.specs.Redefined.{AreDefining}
use Rattle.tv_step.specs.declared.waiting.Shared.{Shared}

-- the action leaves the rule alone: no individual comes or goes, and each predicate that stands in the rule
-- is core and isn't updated
pub record IsLeftAlone (p : ProgramForm) (action : ActionForm) (rule : RuleForm) : Type 0 where
  pub stays : moves_individuals action ≡ false
  pub core : (q : ℕ) → StandsIn q rule → kind_at p q ≡ KCore
  pub kept : (q : ℕ) → StandsIn q rule → ¬ Contains (map (λ w. w.pred) action.updates) q

-- each rule whose number isn't in the set is left alone
pub record WaitsFor (p : ProgramForm) (action : ActionForm) (rules : List RuleForm) (set : List Bool)
    : Type 0 where
  pub count : length set ≡ length rules
  pub alone : (n : ℕ) (rule : RuleForm) → slice_get rules n ≡ Some rule → ¬ IsIn set n
      → IsLeftAlone p action rule

-- the new set has the numbers of the old one and those of the rules in which a predicate of P stands
pub record HasRulesOf (P : ℕ → Type 0) (rules : List RuleForm) (old new : List Bool) : Type 0 where
  pub more : (n : ℕ) → IsIn old n → IsIn new n
  pub standing : (n q : ℕ) (rule : RuleForm) → slice_get rules n ≡ Some rule → StandsIn q rule → P q
      → IsIn new n
  pub count : length new ≡ length old

-- the predicates that stand in a rule whose number isn't in the set are core, and none of these
pub record WaitsAfter (p : ProgramForm) (preds : List ℕ) (rules : List RuleForm)
    (set : List Bool) : Type 0 where
  pub count : length set ≡ length rules
  pub core : (n q : ℕ) (rule : RuleForm) → slice_get rules n ≡ Some rule → ¬ IsIn set n → StandsIn q rule
      → kind_at p q ≡ KCore
  pub kept : (n q : ℕ) (rule : RuleForm) → slice_get rules n ≡ Some rule → ¬ IsIn set n → StandsIn q rule
      → ¬ Contains preds q

-- each rule whose number isn't in the set doesn't see which individuals are summaries, and none of these
-- predicates stands in it
pub record WaitsAbout (preds : List ℕ) (rules : List RuleForm) (set : List Bool) : Type 0 where
  pub count : length set ≡ length rules
  pub blind : (k : ℕ) (rule : RuleForm) → slice_get rules k ≡ Some rule → ¬ IsIn set k → ¬ SeesSummaries rule
  pub apart : (k q : ℕ) (rule : RuleForm) → slice_get rules k ≡ Some rule → ¬ IsIn set k → Contains preds q
      → ¬ StandsIn q rule

-- the set is right after updates of its predicates
abbrev pub IsKeptAfter : ProgramForm → List RuleForm → Kept → Type 0
IsKeptAfter p rules kept = WaitsAfter p kept.preds.items rules kept.set.value

-- the set is right at focus on formulas that mention its predicates
abbrev pub IsKeptAt : List RuleForm → Kept → Type 0
IsKeptAt rules kept = WaitsAbout kept.preds.items rules kept.set.value

-- all rules are in the first, and those in which a defined predicate stands in the second; each set that was
-- found is right for its predicates; and rules are listed by the predicates whose definitions they came of
pub record IsShared (p : ProgramForm) (rules : List RuleForm) (sets : Shared) : Type 0 where
  pub all : sets.all.value ≡ replicate (length rules) true
  pub defined : HasRulesOf (λ q. IsDefined (kind_at p q)) rules (replicate (length rules) false) sets.defined
  pub after : All (IsKeptAfter p rules) sets.after.kept.items
  pub at : All (IsKeptAt rules) sets.at.kept.items
  pub defining : AreDefining p rules sets.defining.value

-- each rule whose number isn't in the set doesn't see which individuals are summaries, and is about none of
-- the predicates below n that the formula mentions
pub record WaitsAt (n : ℕ) (f : Form) (rules : List RuleForm) (set : List Bool) : Type 0 where
  pub count : length set ≡ length rules
  pub blind : (k : ℕ) (rule : RuleForm) → slice_get rules k ≡ Some rule → ¬ IsIn set k → ¬ SeesSummaries rule
  pub apart : (k q : ℕ) (rule : RuleForm) → slice_get rules k ≡ Some rule → ¬ IsIn set k → q < n
      → Mentions q f → ¬ StandsIn q rule
