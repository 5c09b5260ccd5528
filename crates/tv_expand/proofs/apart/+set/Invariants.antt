use Rattle.std.proofs.Common.{◌≡◌, drop, map}
use Rattle.tv_tree.specs.Copies.{set_of, step_of}
use Rattle.tv_expand.specs.Idle.{is_apart_set}
use Rattle.tv_expand.proofs.ApartLaws.{is_apart_step}
use Rattle.tv_expand.proofs.SetTests.{all_steps}
use Rattle.tv_expand.proofs.apart.+set.Given as goal

-- the sets that are left decide
abbrev pub invariant-is_apart_set-loop-step : goal.invariant-is_apart_set-loop-step
invariant-is_apart_set-loop-step l = all_steps (is_apart_step l.word) (map step_of (drop l.step-index l.step-items)) ≡ is_apart_set l.word (set_of l.set)
