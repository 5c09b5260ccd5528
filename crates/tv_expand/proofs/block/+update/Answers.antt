use Rattle.std.proofs.Common.{◌≡◌, ℕ, List, ap, sym, ◌∙◌, arith}
use Rattle.std.proofs.lemmas.List.{length-map}
use Rattle.tv_tree.proofs.Unfolds.{update_of_foreach}
use Rattle.tv_tree.specs.Copies.{update_of, updates_of}
use Rattle.tv_expand.specs.Idle.{is_apart, update_count}
use Rattle.tv_expand.proofs.IdleLaws.{nest_idle}
use Rattle.tv_expand.proofs.ApartLaws.{updated_grows, same_for_all}
use Rattle.tv_expand.specs.Expansion.{sets_for, updated}
use Rattle.tv_flat.specs.Views.{binding_of}
use Rattle.tv_expand.specs.Views.{sets_of}
use Rattle.tv_expand.specs.States.{block_of}
use Rattle.tv_expand.proofs.StepLaws.{updates_each}
use Rattle.tv_expand.proofs.block.+update.Goals as goal

pub put_updates-loop-update-init : goal.put_updates-loop-update-init
put_updates-loop-update-init t c =
    rw c.deref-update-items.ensures.value (sym (updates_each (sets_of c.args.sets.now.entries) (binding_of c.args.binding.now) c.args.updates.now (block_of c.args.state.now)))

pub put_update-returns-in_ok-words-in-Foreach : goal.put_update-returns-in_ok-words-in-Foreach
put_update-returns-in_ok-words-in-Foreach t c =
    rw (c.in-Foreach.is, update_of_foreach, c.in_ok-words-in-Foreach.ensures, ← c.as_slice-in-Foreach.ensures.keys) c.put_each.ensures

pub put_update-returns-then-is_idle_update : goal.put_update-returns-then-is_idle_update
put_update-returns-then-is_idle_update t c =
    nest_idle (sets_for (sets_of c.args.sets.now.entries)) updated (binding_of c.args.binding.now) (update_of c.args.update.now) (block_of c.args.state.now)
    (sym c.is_idle_update.ensures ∙ c.if-is_idle_update.true)

pub put_each-returns-then-len-before : goal.put_each-returns-then-len-before
put_each-returns-then-len-before t c =
    let word : c.args.var.now ≡ c.deref.result.now = cc (c.var.view_is, c.deref.ensures.value) in
    let new = length-map c.put_for.new.state.updates.items update_of in
    let old = length-map c.loop-word.state.updates.items update_of in
    let len = c.len.ensures in
    let before = c.len-before.ensures in
    let same = c.if-len-before.true in
    sym c.loop-word.invariant
    ∙ same_for_all (sets_for (sets_of c.args.sets.now.entries)) updated update_count updated_grows (binding_of c.args.binding.now) c.args.var.now (updates_of c.args.body.now) c.args.words.now c.loop-word.word-index _
    (block_of c.loop-word.state) (block_of c.put_for.new.state) c.loop-word-test.true (ap (λ (w : List ℕ). is_apart w (updates_of c.args.body.now)) word ∙ sym c.are_apart_updates-alike.ensures ∙ c.if-alike.true) c.in_ok-put_for.ensures (omega arith)
