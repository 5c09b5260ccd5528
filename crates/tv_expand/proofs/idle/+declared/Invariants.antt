use Rattle.std.proofs.Common.{◌≡◌, drop, map}
use Rattle.tv_tree.specs.Copies.{set_of, step_of}
use Rattle.tv_expand.specs.Idle.{is_declared_set}
use Rattle.tv_expand.specs.Views.{sets_of}
use Rattle.tv_expand.proofs.IdleLaws.{is_declared_step}
use Rattle.tv_expand.proofs.SetTests.{all_steps}
use Rattle.tv_expand.proofs.idle.+declared.Given as goal

-- the sets that are left decide
abbrev pub invariant-is_declared_set-loop-step : goal.invariant-is_declared_set-loop-step
invariant-is_declared_set-loop-step l = all_steps (is_declared_step (sets_of l.sets.entries)) (map step_of (drop l.step-index l.step-items)) ≡ is_declared_set (sets_of l.sets.entries) (set_of l.set)
