-- There is a list for each predicate so far, of rules that came of its definition.
use Rattle.std.proofs.Common.{◌≡◌, length}
use Rattle.tv_step.specs.Redefined.{AreOfDefinitions}
use Rattle.tv_step.specs.Setting.{form_in}
use Rattle.tv_step.proofs.waiting.defining_rules.Given as goal

abbrev pub invariant-loop-number : goal.invariant-loop-number
invariant-loop-number l = record {
  long : length l.lists ≡ l.number;
  of : AreOfDefinitions (form_in l.x) l.x.closed.now l.lists;
}
