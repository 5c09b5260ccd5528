-- What is asked of a step between plain heaps.
use Rattle.std.specs.Prelude.{ℕ, ◌≡◌, List, Option, Some}
use Rattle.tv_model.specs.Heap.{Holds, IsTuple}
use Rattle.tv_model.specs.Program.{KCore, PredForm, RetainForm, UpdateForm, action_of, program_of}
use Rattle.tv_model.specs.Step.{AllowsChange, FollowsUpdate, Keeps, StepsThrough, update_for}
use Rattle.tv_concrete.specs.declared.setting.Acting.{Acting}
use Rattle.tv_concrete.specs.declared.setting.Step.{Step}
use Rattle.tv_concrete.specs.Lists.{assignment_of, heap_of}

-- the individual of the middle heap is kept
abbrev pub KeepsIn : Step → Option RetainForm → ℕ → Type 0
KeepsIn step retain u = Keeps (heap_of step.middle.now) (assignment_of step.picked) retain u

-- the predicate q holds of the tuple in the new heap as the update says
abbrev pub AllowsIn : Step → (q : ℕ) → UpdateForm → List ℕ → Type 0
AllowsIn step q w tuple =
    AllowsChange (heap_of step.middle.now) (assignment_of step.picked) w.vars w.change tuple
    (Holds (heap_of step.new.now) q tuple)

-- the predicate q holds of the tuple in the new heap as its update says, or else as before
abbrev pub FollowsIn : Step → (q : ℕ) → List UpdateForm → List ℕ → Type 0
FollowsIn step q updates tuple =
    FollowsUpdate q (heap_of step.middle.now) (assignment_of step.picked) (update_for q updates) tuple
    (heap_of step.new.now)

-- if the predicate q has no definition, it follows its update at all tuples
abbrev pub CoreFollows : Step → List UpdateForm → (q : ℕ) → PredForm → Type 0
CoreFollows step updates q d = d.kind ≡ KCore → (tuple : List ℕ)
    → IsTuple (heap_of step.new.now) d.arity tuple → FollowsIn step q updates tuple

-- if the predicate q has a definition, a given update agrees with it at all tuples
abbrev pub GivenAgrees : Step → List UpdateForm → (q : ℕ) → PredForm → Type 0
GivenAgrees step updates q d = ¬ (d.kind ≡ KCore) → (w : UpdateForm) → update_for q updates ≡ Some w
    → (tuple : List ℕ) → IsTuple (heap_of step.new.now) d.arity tuple → AllowsIn step q w tuple

-- the action takes the old heap to the new one through the middle one
abbrev pub StepsBy : Acting → Step → Type 0
StepsBy acting step =
    StepsThrough (program_of acting.program.now) (action_of acting.action.now) (assignment_of step.picked)
    (heap_of step.old.now) (heap_of step.middle.now) (heap_of step.new.now)
