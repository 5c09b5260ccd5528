use Rattle.std.proofs.Common.{◌≡◌, take}
use Rattle.tv_explain.specs.Work.{GoesOnWithSteps}
use Rattle.tv_explain.proofs.answers.append_steps.Given as goal

-- the steps of those before it are written, and the stager is as it was
abbrev pub invariant-loop-number : goal.invariant-loop-number
invariant-loop-number l = (l.stager ≡ l.fn.stager)
    × GoesOnWithSteps l.fn.stager l.edge (take l.number l.structures) l.fn.out.items l.out.items
