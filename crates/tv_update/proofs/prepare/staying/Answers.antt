use Rattle.std.proofs.Common.{arith}
use Rattle.tv_model.specs.Program.{action_of}
use Rattle.tv_eval.specs.AssignmentForm.{assignment_of}
use Rattle.tv_update.specs.Updated.{keep_values}
use Rattle.tv_update.proofs.KeptLaws.{halves_of_yes}
use Rattle.tv_update.proofs.prepare.staying.Goals as goal

pub returns-then-stays_unasked-clause-few : goal.returns-then-stays_unasked-clause-few
returns-then-stays_unasked-clause-few c =
    omega (
      arith,
      halves_of_yes (keep_values c.args.middle.now (assignment_of c.args.applied.now.picks.now)
          (action_of c.args.applied.now.action.now).retain)
          (c.stays_unasked.ensures c.if-stays_unasked.true c.args.middle.now),
    )
