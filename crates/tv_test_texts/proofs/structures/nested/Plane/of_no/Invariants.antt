use Rattle.std.proofs.Common.{◌≡◌, replicate}
use Rattle.tv_kleene.specs.declared.K3.TheVariants.{No}
use Rattle.tv_test_texts.proofs.structures.nested.Plane.of_no.Given as goal

abbrev pub invariant-loop : goal.invariant-loop
invariant-loop l = l.rows.items ≡ replicate l.counter (replicate l.column_count No)
