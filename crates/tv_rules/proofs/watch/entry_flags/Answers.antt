use Rattle.std.proofs.Common.{arith}
use Rattle.tv_rules.specs.EntryForms.{entry_of}
use Rattle.tv_rules.specs.Flags.{IsOfBase}
use Rattle.tv_rules.proofs.EntryLemmas.{unread}
use Rattle.tv_rules.proofs.Loops.{zip-more_at, zip-all}
use Rattle.tv_rules.proofs.watch.entry_flags.Goals as goal

pub loop-entry-preserved : goal.loop-entry-preserved
loop-entry-preserved c =
    zip-more_at (λ e flag. IsOfBase c.args.of_bases.now (entry_of e) flag) c.args.entries.now c.loop-entry.entry-index unread
    c.base_flag.result c.loop-entry.flags.items c.push.new.self.items (omega arith) c.loop-entry.invariant c.base_flag.ensures
    c.in_ok-push.ensures.items

pub returns : goal.returns
returns c =
    zip-all (IsOfBase c.args.of_bases.now) entry_of c.args.entries.now c.loop-entry.entry-index c.loop-entry.flags.items
    (omega arith) c.loop-entry.invariant
