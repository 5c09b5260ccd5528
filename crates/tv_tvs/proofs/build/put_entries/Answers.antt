use Rattle.std.proofs.Common.{◌∙◌}
use Rattle.tv_tree.specs.Names.{names_of}
use Rattle.tv_tvs.specs.Views.{entry_tree}
use Rattle.tv_tvs.proofs.Building.{keeps_then, entries_more}
use Rattle.tv_tvs.proofs.build.put_entries.Goals as goal

pub loop-entry-preserved : goal.loop-entry-preserved
loop-entry-preserved c = record {
  left = c.loop-entry.invariant.left
      ∙ entries_more c.args.preds.now (names_of c.args.individuals.now.keys) (entry_tree c.args.bytes.now) c.args.entries.now c.loop-entry.entry-index
      c.entry-item.result c.loop-entry-test.true c.entry-item.is c.loop-entry.s c.put_entry.new.s c.in_ok-put_entry.ensures.put;
  keeps = keeps_then c.args.s.now c.loop-entry.s c.put_entry.new.s c.loop-entry.invariant.keeps c.put_entry.ensures.keeps;
}
