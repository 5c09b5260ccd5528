-- Laws of updates, as statements.
use Rattle.std.specs.Prelude.{ℕ, ◌≡◌, ◌≢◌, Bool, List, Contains, IfSome}
use Rattle.tv_kleene.specs.declared.K3.TheVariants.{No}
use Rattle.tv_model.specs.declared.program.Mode.{Mode}
use Rattle.tv_model.specs.Form.{Form}
use Rattle.tv_model.specs.Heap.{Heap}
use Rattle.tv_model.specs.Program.{ProgramForm, ActionForm}
use Rattle.tv_model.specs.Rules.{IsConcrete}
use Rattle.tv_model.specs.Step.{FairlySteps}
use Rattle.tv_model.specs.Truth.{Assignment}
use Rattle.tv_model.specs.Valid.{IsValid}
use Rattle.tv_embedding_laws.specs.LogicalStructure.{LogicalStructure, heap_structure}
use Rattle.tv_embedding_laws.specs.Embedding.{Embeds, IsHeapOf}
use Rattle.tv_eval_laws.specs.Value.{value}
use Rattle.tv_eval_laws.specs.Laws.{Renames}
use Rattle.tv_update_laws.specs.Applied.{keep_value, IsMiddleOf, IsChoice, IsNew}
use Rattle.tv_update_laws.specs.Choices.{choices_of, AreGiven}
use Rattle.tv_update_laws.specs.Picks.{picks_of, precondition_value, passing_picks}

-- a concrete heap embeds in s by a map that takes the picked individuals along, and a fair step by these
-- leads from it to a new heap
pub record StepsFrom (p : ProgramForm) (mode : Mode) (action : ActionForm) (s : LogicalStructure)
    (picks : Assignment) (new : Heap) : Type 0 where
  pub m : ℕ → ℕ
  pub old : Heap
  pub picked : Assignment
  pub embeds : Embeds m (heap_structure old) s
  pub concrete : IsConcrete p old
  pub takes : (v : ℕ) → Contains action.picks v → m (picked v) ≡ picks v
  pub steps : FairlySteps p mode action picked old new

-- there is a choice of the individuals that stay by which each new structure has the heap
pub record HasChoice (p : ProgramForm) (mode : Mode) (action : ActionForm) (picks : Assignment)
    (middle : LogicalStructure) (new : Heap) : Type 0 where
  pub keep : ℕ → Bool
  pub is_choice : IsChoice middle picks action.retain keep
  pub embeds : (t : LogicalStructure) → IsNew p mode action picks middle keep t → IsHeapOf new t

-- each heap that a fair step makes of one that embeds in s embeds in the new structure of some choice
abbrev pub SomeChoiceHasHeap : Type 0
SomeChoiceHasHeap =
    (p : ProgramForm) → IsValid p → (mode : Mode) (action : ActionForm) → Contains p.actions action
    → (s : LogicalStructure) (picks : Assignment) (new : Heap) → StepsFrom p mode action s picks new
    → (middle : LogicalStructure) → IsMiddleOf action.fresh s middle
    → HasChoice p mode action picks middle new

-- and so it embeds in one of the structures that the action gives from s
abbrev pub UpdateLosesNoHeap : Type 0
UpdateLosesNoHeap =
    (p : ProgramForm) → IsValid p → (mode : Mode) (action : ActionForm) → Contains p.actions action
    → (s : LogicalStructure) (picks : Assignment) (new : Heap) → StepsFrom p mode action s picks new
    → (ts : List LogicalStructure) → AreGiven p mode action s picks ts
    → (t : LogicalStructure) × Contains ts t × IsHeapOf new t

-- where such a step is made, the precondition isn't No
abbrev pub PreconditionPasses : Type 0
PreconditionPasses =
    (p : ProgramForm) → IsValid p → (mode : Mode) (action : ActionForm) → Contains p.actions action
    → (s : LogicalStructure) (picks : Assignment) (new : Heap) → StepsFrom p mode action s picks new
    → IfSome action.pre (λ f. value s picks f ≢ No)

-- under other picks that agree on the picked variables, the action gives the same
pub record GivesAlike (p : ProgramForm) (mode : Mode) (action : ActionForm) (s : LogicalStructure)
    (a b : Assignment) : Type 0 where
  pub given : (ts : List LogicalStructure) → AreGiven p mode action s a ts → AreGiven p mode action s b ts
  pub choices : (m : LogicalStructure)
      → choices_of (keep_value m a action.retain) m.individuals
      ≡ choices_of (keep_value m b action.retain) m.individuals
  pub precondition : precondition_value s a action.pre ≡ precondition_value s b action.pre

abbrev pub OnlyPicksMatter : Type 0
OnlyPicksMatter =
    (p : ProgramForm) → IsValid p → (mode : Mode) (action : ActionForm) → Contains p.actions action
    → (s : LogicalStructure) (a b : Assignment) → ((v : ℕ) → Contains action.picks v → a v ≡ b v)
    → GivesAlike p mode action s a b

-- the new structure of a choice is determined but for the names of its individuals
abbrev pub NewStructuresAreDetermined : Type 0
NewStructuresAreDetermined =
    (p : ProgramForm) → IsValid p → (mode : Mode) (action : ActionForm) (picks : Assignment)
    → (middle : LogicalStructure) (keep : ℕ → Bool)
    → (s t : LogicalStructure)
    → IsNew p mode action picks middle keep s → IsNew p mode action picks middle keep t
    → (r : ℕ → ℕ) × ((f : Form) → Renames f r s t)

-- and there is one for each choice
abbrev pub EachChoiceHasNewStructure : Type 0
EachChoiceHasNewStructure =
    (p : ProgramForm) → IsValid p → (mode : Mode) (action : ActionForm) (picks : Assignment)
    → (middle : LogicalStructure) (keep : ℕ → Bool)
    → (t : LogicalStructure) × IsNew p mode action picks middle keep t

-- where a concrete heap embeds in s, each heap that a fair step makes of it embeds in one of the structures
-- that the action gives from s under some picks that pass the precondition
abbrev pub ActionLosesNoHeap : Type 0
ActionLosesNoHeap =
    (p : ProgramForm) → IsValid p → (mode : Mode) (action : ActionForm) → Contains p.actions action
    → (old new : Heap) (s : LogicalStructure) → IsHeapOf old s → IsConcrete p old
    → (picked : Assignment) → FairlySteps p mode action picked old new
    → (us : List ℕ) × Contains (passing_picks action s) us
    × ((ts : List LogicalStructure) → AreGiven p mode action s (picks_of action us) ts
    → (t : LogicalStructure) × Contains ts t × IsHeapOf new t)
