use Rattle.std.proofs.Common.{arith, refl, slice_index_or}
use Rattle.tv_rules.proofs.NotingLaws.{notes-next, read-at}
use Rattle.tv_rules.proofs.mentioned.note_all.Goals as goal

pub loop-q-preserved : goal.loop-q-preserved
loop-q-preserved c =
    notes-next c.args.preds.now c.loop-q.q-index c.args.number (slice_index_or c.args.preds.now c.loop-q.q-index 0)
    c.args.lists.now.items c.loop-q.lists.items c.index_mut.result.now c.note_once.new.list c.loop-q-test.true refl
    c.loop-q.invariant
    (read-at c.loop-q.lists.items (slice_index_or c.args.preds.now c.loop-q.q-index 0) c.index_mut.result.now
    (omega (arith, c.requires c.loop-q.q-index 0 c.loop-q-test.true, c.loop-q.invariant.count)) c.index_mut.ensures.value)
    c.in_ok-note_once.ensures
