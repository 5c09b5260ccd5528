use Rattle.tv_blur.proofs.NameRows.{TellAll}
use Rattle.tv_blur.proofs.names.compare_values.Given as goal

abbrev pub invariant-loop-i : goal.invariant-loop-i
invariant-loop-i l = TellAll l.rows l.u l.w l.i
