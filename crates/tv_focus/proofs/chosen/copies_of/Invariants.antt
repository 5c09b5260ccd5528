use Rattle.std.proofs.Common.{◌≡◌, map, take, sum}
use Rattle.tv_focus_laws.specs.Tables.{parts_of}
use Rattle.tv_focus.proofs.chosen.copies_of.Given as goal

abbrev pub invariant-loop-a : goal.invariant-loop-a
invariant-loop-a l = l.copies.items ≡ map (λ a. sum (take a (parts_of l.choice))) (take l.a-index l.anchors)
