use Rattle.std.proofs.Common.{◌≡◌, ◌≤◌, [], ◌∷◌}
use Rattle.tv_unknown.specs.Unknown.{total, unknown_from}
use Rattle.tv_unknown.proofs.count.count_unary.Given as goal

abbrev pub invariant-loop-u : goal.invariant-loop-u
invariant-loop-u l = record {
  count : l.count ≡ total (λ u. unknown_from l.s l.p.0 (u ∷ []) 0) l.u;
  most : l.count ≤ l.u;
}
