use Rattle.std.proofs.Common.{◌≡◌, replicate}
use Rattle.tv_kleene.specs.declared.K3.TheVariants.{Half}
use Rattle.tv_update.proofs.rows.Rows.fill_half_pairs.Given as goal

abbrev pub invariant-loop : goal.invariant-loop
invariant-loop l = record {
  rows : l.self.pairs.items ≡ replicate l.counter (replicate l.self.size Half);
  size : l.self.size ≡ l.fn.self.size;
}
