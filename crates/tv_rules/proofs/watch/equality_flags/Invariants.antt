use Rattle.std.proofs.Common.{take}
use Rattle.std.specs.List.{AllZip}
use Rattle.tv_model.specs.Program.{rule_of}
use Rattle.tv_rules.specs.Standing.{HasEqualityIn}
use Rattle.tv_rules.specs.Flags.{Flags}
use Rattle.tv_rules.proofs.watch.equality_flags.Given as goal

abbrev pub invariant-loop-rule : goal.invariant-loop-rule
invariant-loop-rule l = AllZip (λ rule flag. Flags HasEqualityIn (rule_of rule) flag) (take l.rule-index l.bases) l.flags.items
