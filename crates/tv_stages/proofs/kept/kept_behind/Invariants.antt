use Rattle.std.proofs.Common.{◌≡◌, take}
use Rattle.std.specs.List.{flat_map}
use Rattle.tv_stages_laws.specs.Stages.{kept_at}
use Rattle.tv_stages.proofs.kept.kept_behind.Given as goal

abbrev pub invariant-loop-x : goal.invariant-loop-x
invariant-loop-x l = l.out ≡ flat_map kept_at (take l.x-index l.row.at_hand)
