-- Steps through a middle heap, and the numbers among which a further individual is looked for.
use Rattle.std.specs.Prelude.{ℕ, ◌≢◌, List, Contains}
use Rattle.tv_model.specs.Heap.{Heap}
use Rattle.tv_model.specs.Program.{action_of, program_of}
use Rattle.tv_model.specs.Step.{IsFairThrough}
use Rattle.tv_model.specs.Truth.{Assignment}
use Rattle.tv_concrete.specs.declared.setting.Acting.{Acting}
use Rattle.tv_concrete.specs.Lists.{assignment_of, heap_of}
use Rattle.tv_fair.specs.declared.ends.Ends.{Ends}

-- the action takes the old heap to the new one through the middle one in a fair step
abbrev pub IsFairOver : Acting → Ends → (middle : Heap) → Type 0
IsFairOver acting ends middle =
    IsFairThrough (program_of acting.program.now) acting.mode (action_of acting.action.now)
    (assignment_of ends.picked) (heap_of ends.old.now) middle (heap_of ends.new.now)

-- the numbers have all individuals of the new heap, all values of the variables, and one more that is
-- neither of these nor an individual of the old heap
pub record Suffice (us : List ℕ) (old new : Heap) (picked : Assignment) : Type 0 where
  pub of_new : (u : ℕ) → Contains new.individuals u → Contains us u
  pub of_picked : (v : ℕ) → Contains us (picked v)
  pub further : (m : ℕ) × Contains us m × (¬ Contains old.individuals m) × (¬ Contains new.individuals m)
      × ((v : ℕ) → picked v ≢ m)
