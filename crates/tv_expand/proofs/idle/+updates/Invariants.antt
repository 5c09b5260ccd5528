use Rattle.std.proofs.Common.{◌≡◌, drop, map}
use Rattle.tv_tree.specs.Copies.{nests, update_of, updates_of}
use Rattle.tv_expand.specs.Idle.{is_idle}
use Rattle.tv_expand.specs.Views.{sets_of}
use Rattle.tv_expand.proofs.idle.+updates.Given as goal

-- the updates that are left decide
abbrev pub invariant-are_idle_updates-loop-update : goal.invariant-are_idle_updates-loop-update
invariant-are_idle_updates-loop-update l = is_idle (sets_of l.sets.entries) (nests (map update_of (drop l.update-index l.update-items))) ≡ is_idle (sets_of l.sets.entries) (updates_of l.updates)
