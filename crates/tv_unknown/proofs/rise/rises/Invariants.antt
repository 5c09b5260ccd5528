use Rattle.std.proofs.Common.{◌≡◌, ◌-◌}
use Rattle.std.specs.List.{flat_map, range_with_len}
use Rattle.tv_unknown.specs.Unknown.{rise_by, unknown_count}
use Rattle.tv_unknown.proofs.rise.rises.Given as goal

abbrev pub invariant-loop-pred : goal.invariant-loop-pred
invariant-loop-pred l =
    l.found ≡ flat_map (λ q. rise_by q (unknown_count l.after q - unknown_count l.before q))
    (range_with_len 0 l.pred)
