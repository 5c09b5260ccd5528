use Rattle.std.proofs.Common.{◌≡◌, map}
use Rattle.tv_model.specs.Program.{update_of}
use Rattle.tv_model.specs.Step.{update_for}
use Rattle.tv_plan.proofs.Finding.{update_from}
use Rattle.tv_plan.proofs.fates.written.Given as goal

abbrev pub invariant-loop-update : goal.invariant-loop-update
invariant-loop-update l = update_from l.q l.updates l.update-index ≡ update_for l.q (map update_of l.updates)
