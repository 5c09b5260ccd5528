-- A step: how an action takes an old heap to a new heap, through a middle heap.
use Rattle.std.specs.Prelude.{ℕ, ◌≡◌, ◌↔◌, ◌==◌, Bool, true, false, List, [], ◌∷◌, ◌++◌, Option, Some, None}
use Rattle.std.specs.Prelude.{All, Contains, IfSome, slice_get, find}
use Rattle.tv_model.specs.declared.program.Edge.{Edge}
use Rattle.tv_model.specs.declared.program.Mode.{Mode}
use Rattle.tv_model.specs.declared.program.Mode.TheVariants.{Given, Recompute}
use Rattle.tv_model.specs.Heap.{Heap, Holds, IsTuple}
use Rattle.tv_model.specs.Program.{ProgramForm, EachPred, KCore, ActionForm, RetainForm, UpdateForm}
use Rattle.tv_model.specs.Program.{ChangeForm, CFree, CTo}
use Rattle.tv_model.specs.Rules.{IsHeap, IsConcrete, MeetsProgram}
use Rattle.tv_model.specs.Truth.{Assignment, Truth, put, put_all}

-- the heap with the further individual u, which is marked as fresh and stands in no tuple
abbrev pub with_new : Heap → ℕ → Heap
with_new h u = record { individuals = h.individuals ++ u ∷ []; extents = h.extents; fresh = Some u }

-- the middle heap is the old one, or the old one and an individual that isn't in it
abbrev pub IsMiddle : (fresh : Bool) → (old middle : Heap) → Type 0
IsMiddle false old middle = middle ≡ old
IsMiddle true old middle = (u : ℕ) × (¬ Contains old.individuals u) × (middle ≡ with_new old u)

-- the individual is kept: the retain formula is true of it
abbrev pub Keeps : Heap → Assignment → Option RetainForm → ℕ → Type 0
Keeps middle picked None u = Unit {0}
Keeps middle picked (Some retain) u = Truth middle (put picked retain.var u) retain.keep

-- the update of the predicate q, if there is one
abbrev pub update_for : ℕ → List UpdateForm → Option UpdateForm
update_for q updates = find (λ w. w.pred == q) updates

-- the change lets its predicate hold of the tuple exactly where its formula is true of the tuple
abbrev pub AllowsChange : Heap → Assignment → List ℕ → ChangeForm → List ℕ → Type 0 → Type 0
AllowsChange middle picked vars CFree tuple holds = Unit {0}
AllowsChange middle picked vars (CTo f) tuple holds = holds ↔ Truth middle (put_all picked vars tuple) f

-- the predicate q holds of the tuple in the new heap as its update says, or else as before
abbrev pub FollowsUpdate : (q : ℕ) → (middle : Heap) → Assignment → Option UpdateForm → List ℕ → (new : Heap)
    → Type 0
FollowsUpdate q middle picked None tuple new = Holds new q tuple ↔ Holds middle q tuple
FollowsUpdate q middle picked (Some w) tuple new =
    AllowsChange middle picked w.vars w.change tuple (Holds new q tuple)

-- an action takes an old heap to a new one through a middle heap, by an assignment of its picked variables
pub record StepsThrough (p : ProgramForm) (action : ActionForm) (picked : Assignment) (old middle new : Heap)
    : Type 0 where
  pub old_heap : IsHeap p old
  pub picks_individuals : All (λ v. Contains old.individuals (picked v)) action.picks
  pub precondition : IfSome action.pre (Truth old picked)
  pub is_middle : IsMiddle action.fresh old middle
  pub keeps : (u : ℕ)
      → Contains new.individuals u ↔ (Contains middle.individuals u × Keeps middle picked action.retain u)
  pub core : EachPred p.preds (λ q d. d.kind ≡ KCore → (tuple : List ℕ) → IsTuple new d.arity tuple
      → FollowsUpdate q middle picked (update_for q action.updates) tuple new)
  pub new_heap : IsHeap p new
  pub concrete : IsConcrete p new

-- of a tuple of kept individuals, each update that is given for a defined predicate is true in the middle
-- heap exactly where the predicate holds in the new, concrete heap
abbrev pub AgreesWithGiven : ProgramForm → Mode → ActionForm → Assignment → (middle new : Heap) → Type 0
AgreesWithGiven p Recompute action picked middle new = Unit {0}
AgreesWithGiven p Given action picked middle new =
    EachPred p.preds (λ q d. ¬ (d.kind ≡ KCore) → (w : UpdateForm) → update_for q action.updates ≡ Some w
    → (tuple : List ℕ) → IsTuple new d.arity tuple
    → AllowsChange middle picked w.vars w.change tuple (Holds new q tuple))

-- a fair step through the middle heap: both ends meet the program's rules, and the given updates agree
pub record IsFairThrough (p : ProgramForm) (mode : Mode) (action : ActionForm) (picked : Assignment)
    (old middle new : Heap) : Type 0 where
  pub step : StepsThrough p action picked old middle new
  pub given : AgreesWithGiven p mode action picked middle new
  pub old_meets : MeetsProgram p old
  pub new_meets : MeetsProgram p new

-- a fair step by the action and the picked individuals, through some middle heap
abbrev pub FairlySteps : ProgramForm → Mode → ActionForm → (picked : Assignment) → (old new : Heap) → Type 0
FairlySteps p mode action picked old new = (middle : Heap) × IsFairThrough p mode action picked old middle new

-- a fair step along an edge of the program, by some picked individuals
pub record FairStep (p : ProgramForm) (mode : Mode) (edge : Edge) (old new : Heap) : Type 0 where
  pub action : ActionForm
  pub picked : Assignment
  pub its_action : slice_get p.actions edge.action ≡ Some action
  pub fair : FairlySteps p mode action picked old new
