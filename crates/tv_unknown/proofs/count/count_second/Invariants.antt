use Rattle.std.proofs.Common.{◌≡◌, ◌≤◌, [], ◌∷◌}
use Rattle.tv_unknown.specs.Unknown.{total, unknown_from}
use Rattle.tv_unknown.proofs.count.count_second.Given as goal

abbrev pub invariant-loop-w : goal.invariant-loop-w
invariant-loop-w l = record {
  count : l.count ≡ total (λ w. unknown_from l.s l.p.0 (l.u ∷ w ∷ []) 0) l.w;
  most : l.count ≤ l.w;
}
