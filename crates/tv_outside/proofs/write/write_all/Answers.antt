use Rattle.std.proofs.Common.{take, arith}
use Rattle.std.proofs.lemmas.List.{take-append-drop}
use Rattle.std.proofs.lemmas.Grind.{common_steps}
use Rattle.tv_outside.proofs.Writing.{Wrote-step}
use Rattle.tv_outside.proofs.write.write_all.Goals as goal

pub loop-rest-preserved : goal.loop-rest-preserved
loop-rest-preserved g c =
    (Wrote-step _ _ _ _ _ (take c.in_ok-count.count c.loop-rest.rest.now) _ c.loop-rest.invariant.0 (grind (arith, common_steps, take-append-drop)) c.in_ok-count.ensures.front, omega (arith, c.put.ensures.count, c.loop-rest.invariant.1), grind (arith, c.loop-rest.invariant.2, c.in_ok-count.ensures.no_failure))
