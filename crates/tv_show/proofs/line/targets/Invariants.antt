use Rattle.std.proofs.Common.{◌≡◌, map}
use Rattle.std.specs.List.{range_with_len}
use Rattle.tv_show.specs.Line.{target_text}
use Rattle.tv_show.proofs.line.targets.Given as goal

abbrev pub invariant-loop-u : goal.invariant-loop-u
invariant-loop-u l = l.texts ≡ map (target_text l.preds l.s) (range_with_len 0 l.u)
