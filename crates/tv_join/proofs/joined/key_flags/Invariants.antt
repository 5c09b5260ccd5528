use Rattle.std.proofs.Common.{◌≡◌, map, take}
use Rattle.tv_model.specs.Program.{pred_of}
use Rattle.tv_join.specs.Flags.{is_counted}
use Rattle.tv_join.proofs.joined.key_flags.Given as goal

abbrev pub invariant-loop-pred : goal.invariant-loop-pred
invariant-loop-pred l = l.flags.items ≡ map (λ pred. is_counted (pred_of pred)) (take l.pred-index l.pred-items)
