use Rattle.std.proofs.Common.{◌≡◌, ◌++◌, drop, map}
use Rattle.tv_tree.specs.Copies.{step_of, set_of}
use Rattle.tv_tree.specs.Printed.{spaced, set_tokens, steps_tokens}
use Rattle.tv_tree.proofs.print.+set.Given as goal

-- what is printed and what is left are all of it
abbrev pub invariant-print_set-loop-step : goal.invariant-print_set-loop-step
invariant-print_set-loop-step l = l.out.items ++ spaced (steps_tokens (map step_of (drop l.step-index l.step-items))) ≡ l.fn.out.items ++ spaced (set_tokens (set_of l.set))
