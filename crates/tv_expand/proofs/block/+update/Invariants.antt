use Rattle.std.proofs.Common.{◌≡◌, drop}
use Rattle.tv_tree.specs.Copies.{update_of, updates_of}
use Rattle.tv_expand.specs.Outcome.{each}
use Rattle.tv_expand.specs.Expansion.{sets_for, updated, unrolled_nest, all_updated}
use Rattle.tv_flat.specs.Replaced.{bound}
use Rattle.tv_flat.specs.Views.{binding_of}
use Rattle.tv_expand.specs.Views.{names_of, sets_of}
use Rattle.tv_expand.specs.States.{block_of}
use Rattle.tv_expand.proofs.block.+update.Given as goal

-- the state so far and the members that are left give what all members give
abbrev pub invariant-put_each-loop-word : goal.invariant-put_each-loop-word
invariant-put_each-loop-word l = each (λ x. all_updated (sets_of l.sets.entries) (bound (binding_of l.binding) l.var x) (updates_of l.body)) (names_of (drop l.word-index l.words)) (block_of l.state) ≡ each (λ x. all_updated (sets_of l.sets.entries) (bound (binding_of l.binding) l.var x) (updates_of l.body)) (names_of l.words) (block_of l.initial.state)

-- the state so far and the updates that are left give what all updates give
abbrev pub invariant-put_updates-loop-update : goal.invariant-put_updates-loop-update
invariant-put_updates-loop-update l = each (λ u. unrolled_nest (sets_for (sets_of l.sets.entries)) updated (binding_of l.binding) (update_of u)) (drop l.update-index l.update-items) (block_of l.state) ≡ all_updated (sets_of l.sets.entries) (binding_of l.binding) (updates_of l.updates) (block_of l.initial.state)
