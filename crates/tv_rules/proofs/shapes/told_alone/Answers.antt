use Rattle.std.proofs.Common.{⊎_elim, arith}
use Rattle.tv_rules.proofs.shapes.told_alone.Goals as goal

pub loop-v-preserved : goal.loop-v-preserved
loop-v-preserved c = λ w at.
    ⊎_elim (λ before. c.loop-v.invariant w before) (λ same. (omega (arith, same.0, c.loop-v-test.true), same.1))
    (c.in_ok-note_alone.ensures w at)
