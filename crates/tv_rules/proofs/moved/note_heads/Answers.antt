use Rattle.std.proofs.Common.{map, slice_index_or}
use Rattle.tv_coerce_moves.proofs.NotedLaws.{keeps-both}
use Rattle.tv_rules.specs.EntryForms.{entry_of}
use Rattle.tv_rules.proofs.EntryLemmas.{unread}
use Rattle.tv_rules.proofs.MovedLaws.{heads-next, mapped-or}
use Rattle.tv_rules.proofs.moved.note_heads.Goals as goal

pub loop-entry-preserved : goal.loop-entry-preserved
loop-entry-preserved c =
    let k = c.loop-entry.entry-index
    in (
      keeps-both c.args.occurrences.now c.loop-entry.occurrences c.note_if_twice.new.occurrences c.loop-entry.invariant.0 c.in_ok-note_if_twice.ensures.kept,
      heads-next k (map entry_of c.args.entries.now) (entry_of (slice_index_or c.args.entries.now k unread)) c.loop-entry.occurrences
          c.note_if_twice.new.occurrences (mapped-or entry_of c.args.entries.now k unread c.loop-entry-test.true) c.loop-entry.invariant.1
          c.in_ok-note_if_twice.ensures.kept c.in_ok-note_if_twice.ensures.noted,
    )
