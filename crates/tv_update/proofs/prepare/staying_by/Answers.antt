use Rattle.std.proofs.Common.{arith}
use Rattle.tv_update.proofs.KeptLaws.{halves_of_yes}
use Rattle.tv_update.proofs.prepare.staying_by.Goals as goal

pub returns-then-are_yes-clause-few : goal.returns-then-are_yes-clause-few
returns-then-are_yes-clause-few c = omega (arith, halves_of_yes c.args.keep.now (c.are_yes.ensures.0 c.if-are_yes.true))
