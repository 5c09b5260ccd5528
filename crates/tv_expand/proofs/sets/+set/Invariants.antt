use Rattle.std.proofs.Common.{◌≡◌, drop, map}
use Rattle.tv_tree.specs.Copies.{set_of, step_of}
use Rattle.tv_expand.specs.Sets.{members_of}
use Rattle.tv_flat.specs.Views.{binding_of}
use Rattle.tv_expand.specs.Views.{names_of, sets_of}
use Rattle.tv_expand.proofs.SetLaws.{further_sets}
use Rattle.tv_expand.proofs.sets.+set.Given as goal

-- the members so far and the sets that are left give the members of all
abbrev pub invariant-members-loop-step : goal.invariant-members-loop-step
invariant-members-loop-step l = further_sets (sets_of l.sets.entries) (binding_of l.binding) (names_of l.found.keys) (map step_of (drop l.step-index l.step-items)) ≡ members_of (sets_of l.sets.entries) (binding_of l.binding) (set_of l.set)
