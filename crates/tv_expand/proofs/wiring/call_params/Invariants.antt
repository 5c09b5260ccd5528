use Rattle.std.proofs.Common.{◌≡◌, [], drop}
use Rattle.std.specs.List.{zip}
use Rattle.tv_flat.specs.Replaced.{all_bound}
use Rattle.tv_flat.specs.Views.{params_of}
use Rattle.tv_expand.proofs.wiring.call_params.Given as goal

-- what is bound so far and the pairs that are left give what all pairs give
abbrev pub invariant-loop-i : goal.invariant-loop-i
invariant-loop-i l = all_bound (params_of l.bound.entries) (zip (drop l.i l.params) (drop l.i l.arguments)) ≡ all_bound [] (zip l.params l.arguments)
