-- How a rule is tried on a structure: its variables get individuals one after the other.
use Rattle.std.specs.Prelude.{ℕ, ◌≡◌, ◌<◌, ◌≤◌, ◌⊎◌, true, ◌≢◌, ◌++◌, List, [], ◌∷◌, length, Option}
use Rattle.std.specs.Prelude.{All, Contains, slice_index_or}
use Rattle.tv_model.specs.Form.{FOne}
use Rattle.tv_model.specs.Program.{HeadForm, HNever, RuleForm}
use Rattle.tv_model.specs.Rules.{IsFreeInRule}
use Rattle.tv_model.specs.Truth.{Assignment}
use Rattle.tv_embedding_laws.specs.LogicalStructure.{LogicalStructure}
use Rattle.tv_embedding_laws.specs.Embedding.{IsBelow}
use Rattle.tv_stable_laws.specs.Stable.{IsHeadMet, IsStableUnder}
use Rattle.tv_eval.specs.AssignmentForm.{IsAssigned, individual_for}
use Rattle.tv_eval.specs.Bound.{bound_room, bound_structure}
use Rattle.tv_eval.specs.declared.evaluator.Evaluator.{Evaluator}
use Rattle.tv_eval.specs.ScratchForm.{ScratchForm, HasScratchFor}
use Rattle.tv_model.specs.declared.program.Rule.{Rule}
use Rattle.tv_rules.specs.EntryForms.{rules_of}
use Rattle.tv_stable_laws.specs.Laws.{IsPlainRule}
use Rattle.tv_structure_form.specs.StructureForm.{StructureForm, arities_of, structure_of, summary_at}
use Rattle.tv_coerce.specs.Changes.{Has, IsPlace, IsOpen}
use Rattle.tv_coerce.specs.Ready.{CanCoerce, IsRuleOver}
use Rattle.tv_coerce.specs.Touched.{IsChangeOf}
use Rattle.tv_coerce_members.specs.Members.{IsLaidOut}
use Rattle.tv_rules.specs.Kin.{IsKin, IsTriedBy, skip_of}
use Rattle.tv_coerce.specs.declared.noted.Ask.{Ask}
use Rattle.tv_coerce.specs.declared.noted.Queue.{Queue}
use Rattle.tv_coerce.specs.declared.change.Change.{Change}
use Rattle.tv_coerce.specs.declared.trial.Trial.{Trial}
use Rattle.tv_coerce.specs.declared.trial.Outcome.{Outcome}
use Rattle.tv_coerce.specs.declared.trial.Outcome.TheVariants.{Possible, Impossible}
use Rattle.tv_coerce.specs.declared.change.Need.{Need}
use Rattle.tv_coerce.specs.declared.change.Need.TheVariants.{Nothing, Never, Put}

-- the rule of that number
abbrev pub rule_at : List Rule → ℕ → RuleForm
rule_at closed number = slice_index_or (rules_of closed) number (record { body = FOne; head = HNever })

abbrev pub trial_rule : Trial → RuleForm
trial_rule trial = rule_at trial.closed.now trial.number

-- the trial has the number of a rule, and what trying it and each that came of the same base rule goes by
pub record IsTrial (trial : Trial) : Type 0 where
  pub number : trial.number < length (rules_of trial.closed.now)
  pub laid : IsLaidOut trial.shape.now
  pub kin : (n : ℕ) → IsKin trial.closed.now trial.number n
      → IsTriedBy trial.shape.now (skip_of trial.closed.now n) (rule_at trial.closed.now n)

-- the rule is over the structure's predicates, and there is room for its body
pub record CanTry (rule : RuleForm) (s : StructureForm) (room : ScratchForm) : Type 0 where
  pub over : IsRuleOver (arities_of s) rule
  pub plain : IsPlainRule rule
  pub fits : HasScratchFor room rule.body s.size

-- the variables of the rule but those that are left stand for individuals
abbrev pub ArePlaced : (size : ℕ) → RuleForm → (rest : List ℕ) → List (Option ℕ) → Type 0
ArePlaced size rule rest places = (v : ℕ) → IsFreeInRule v rule → ¬ Contains rest v → IsAssigned size places v

-- b gives these variables what a gives them, but for those that are left
abbrev pub GoesOn : (vars rest : List ℕ) → (a b : Assignment) → Type 0
GoesOn vars rest a b = (v : ℕ) → Contains vars v → ¬ Contains rest v → b v ≡ a v

-- each structure below s that is stable under the rule has the change, which isn't known in s
pub record IsForced (s : StructureForm) (rule : RuleForm) (c : Change) : Type 0 where
  pub place : IsPlace s c
  pub unknown : IsOpen s c
  pub of : IsChangeOf rule.head c
  pub forced : (u : LogicalStructure) → IsBelow u (structure_of s) → IsStableUnder u rule → Has c u

-- no structure below s is stable under the rule
abbrev pub IsHopeless : StructureForm → RuleForm → Type 0
IsHopeless s rule = (u : LogicalStructure) → IsBelow u (structure_of s) → ¬ IsStableUnder u rule

-- the variables are one twice, which stands for a summary
abbrev pub IsOnSummary : StructureForm → Assignment → (vars : List ℕ) → Type 0
IsOnSummary s a vars = (v : ℕ) × (vars ≡ v ∷ v ∷ []) × (summary_at s (a v) ≡ true)

-- what the head needs where the body is Yes: nothing, since it is met; what can't be; or a change that
-- each structure below has in which the head is met
abbrev pub IsNeed : StructureForm → Assignment → HeadForm → Need → Type 0
IsNeed s a head Nothing = IsHeadMet (structure_of s) a head
IsNeed s a head Never = (u : LogicalStructure) → IsBelow u (structure_of s) → ¬ IsHeadMet u a head
IsNeed s a head (Put c) =
    IsPlace s c × IsOpen s c
    × ((u : LogicalStructure) → IsBelow u (structure_of s) → IsHeadMet u a head → Has c u) × IsChangeOf head c

-- the trial may be gone through: it is one, the evaluator is one for its structure, and there is room for its
-- rules
pub record IsReadyFor (t : Trial) (e : Evaluator) : Type 0 where
  pub trial : IsTrial t
  pub structure : bound_structure e ≡ t.structure.now
  pub rules : CanCoerce (rules_of t.closed.now) t.structure.now (bound_room e)

-- what is asked for was put behind what was noted; or it was passed over where something was noted
abbrev pub IsAdded : (ask : Ask) → (old new : Queue) → Type 0
IsAdded ask old new =
    (new.list.items ≡ old.list.items ++ ask ∷ [])
    ⊎ ((new.list.items ≡ old.list.items) × (old.list.items ≢ []))

-- what was noted of the head of the rule of that number under one assignment
abbrev pub IsNotedOf : StructureForm → Assignment → (number : ℕ) → HeadForm → (old new : Queue) → Outcome
    → Type 0
IsNotedOf s a number head old new Possible =
    ((new ≡ old) × IsNeed s a head Nothing)
    ⊎ ((c : Change) × IsAdded (record { number = number; change = c }) old new × IsNeed s a head (Put c))
IsNotedOf s a number head old new Impossible = (new ≡ old) × IsNeed s a head Never

-- only what the variables that are left stand for may differ
abbrev pub DifferOnlyAt : (rest : List ℕ) → (old new : List (Option ℕ)) → Type 0
DifferOnlyAt rest old new = (v : ℕ) → ¬ Contains rest v → individual_for new v ≡ individual_for old v

-- ---- what trying a rule and those that came of the same base rule tells

-- no structure below s is stable under one of them
pub record HasHopeless (closed : List Rule) (number : ℕ) (s : StructureForm) : Type 0 where
  pub hopeless : ℕ
  pub kin : IsKin closed number hopeless
  pub is : IsHopeless s (rule_at closed hopeless)

-- one of them asks for the change
pub record IsForcedBy (closed : List Rule) (number : ℕ) (s : StructureForm) (ask : Ask) : Type 0 where
  pub kin : IsKin closed number ask.number
  pub forced : IsForced s (rule_at closed ask.number) ask.change

abbrev pub AreNoted : Trial → Queue → Type 0
AreNoted trial noted =
    All (IsForcedBy trial.closed.now trial.number trial.structure.now) noted.list.items

-- where nothing was noted, that all was tried; or that no structure below is stable
abbrev pub Tells : Trial → (Tried : Type 0) → List Ask → Outcome → Type 0
Tells trial Tried asks Possible = asks ≡ [] → Tried
Tells trial Tried asks Impossible = HasHopeless trial.closed.now trial.number trial.structure.now

-- what was noted, and is told, where that was to be tried
pub record IsTold (trial : Trial) (Tried : Type 0) (old new : Queue) (outcome : Outcome) : Type 0 where
  pub forced : AreNoted trial old → AreNoted trial new
  pub grows : length old.list.items ≤ length new.list.items
  pub tells : Tells trial Tried new.list.items outcome

-- what has to change, and by which rules; where that is nothing the structure is stable under all of them
pub record IsFound (closed : List Rule) (number : ℕ) (s : StructureForm) (asks : List Ask) : Type 0 where
  pub forced : All (IsForcedBy closed number s) asks
  pub stable : asks ≡ [] → (n : ℕ) → IsKin closed number n
      → IsStableUnder (structure_of s) (rule_at closed n)

abbrev pub IsTrialResult : List Rule → ℕ → StructureForm → List Ask → Outcome → Type 0
IsTrialResult closed number s asks Possible = IsFound closed number s asks
IsTrialResult closed number s asks Impossible = HasHopeless closed number s
