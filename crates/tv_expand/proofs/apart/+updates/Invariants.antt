use Rattle.std.proofs.Common.{◌≡◌, drop, map}
use Rattle.tv_tree.specs.Copies.{nests, update_of, updates_of}
use Rattle.tv_expand.specs.Idle.{is_apart}
use Rattle.tv_expand.proofs.apart.+updates.Given as goal

-- what is left decides
abbrev pub invariant-are_apart_updates-loop-update : goal.invariant-are_apart_updates-loop-update
invariant-are_apart_updates-loop-update l = is_apart l.word (nests (map update_of (drop l.update-index l.update-items))) ≡ is_apart l.word (updates_of l.updates)
