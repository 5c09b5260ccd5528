use Rattle.std.proofs.Common.{◌≡◌, length}
use Rattle.tv_model.specs.Program.{program_of}
use Rattle.tv_losses_unmet.specs.Kept.{AreClosedAlone, IsOfRule, of_rule}
use Rattle.tv_losses_unmet.proofs.closed.closed_rules.Given as goal

abbrev pub invariant-loop-number : goal.invariant-loop-number
invariant-loop-number l = record {
  count : length l.lists.items ≡ l.number;
  are : AreClosedAlone (program_of l.program) of_rule l.lists.items;
  made : IsOfRule (program_of l.program) (program_of l.made);
}
