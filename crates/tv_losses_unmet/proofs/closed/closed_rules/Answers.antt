use Rattle.std.proofs.Common.{◌∙◌, ◌+◌, ap, length, length-append}
use Rattle.tv_model.specs.Program.{program_of}
use Rattle.tv_losses_unmet.specs.Kept.{of_rule}
use Rattle.tv_losses_unmet.proofs.Kept.{one-more}
use Rattle.tv_losses_unmet.proofs.closed.closed_rules.Goals as goal

pub loop-number-preserved : goal.loop-number-preserved
loop-number-preserved c = record {
  count = ap length c.in_ok-push.ensures.items ∙ length-append c.loop-number.lists.items _
      ∙ ap (λ n. n + 1) c.loop-number.invariant.count;
  are = one-more (program_of c.args.program.now) of_rule c.loop-number.lists.items c.push.new.self.items
      c.loop-number.number c.in_ok-closed_of.field-0 c.loop-number.invariant.are c.loop-number.invariant.count
      c.in_ok-closed_of.ensures c.in_ok-push.ensures.items;
  made = (c.loop-number.number, c.in_ok-exchange_rule.ensures);
}
