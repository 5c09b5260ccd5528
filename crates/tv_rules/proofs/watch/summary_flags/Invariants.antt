use Rattle.std.proofs.Common.{take}
use Rattle.std.specs.List.{AllZip}
use Rattle.tv_rules.specs.EntryForms.{entry_of}
use Rattle.tv_rules.specs.Flags.{IsOfBaseOrTwice}
use Rattle.tv_rules.proofs.watch.summary_flags.Given as goal

abbrev pub invariant-loop-entry : goal.invariant-loop-entry
invariant-loop-entry l = AllZip (λ e flag. IsOfBaseOrTwice l.of_bases (entry_of e) flag) (take l.entry-index l.entries) l.flags.items
