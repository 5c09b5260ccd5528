use Rattle.std.proofs.Common.{◌≡◌, map, take}
use Rattle.tv_focus_walk.specs.Walk.{shifted_by}
use Rattle.tv_focus_walk.proofs.split.shifted.Given as goal

abbrev pub invariant-loop-a : goal.invariant-loop-a
invariant-loop-a l = l.out.items ≡ map (shifted_by l.at l.more) (take l.a-index l.anchors)
