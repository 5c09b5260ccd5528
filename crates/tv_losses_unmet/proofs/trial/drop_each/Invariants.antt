use Rattle.std.proofs.Common.{◌≡◌, take}
use Rattle.tv_rules.specs.EntryForms.{rules_of}
use Rattle.tv_losses_unmet.specs.Kept.{DropEach}
use Rattle.tv_losses_unmet.proofs.trial.drop_each.Given as goal

abbrev pub invariant-loop-s : goal.invariant-loop-s
invariant-loop-s l = record {
  drop : DropEach (take l.s-index l.x.structures.now) (rules_of l.closed);
  scratch : l.scratch ≡ l.fn.scratch;
}
