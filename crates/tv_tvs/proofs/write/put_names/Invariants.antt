use Rattle.std.proofs.Common.{◌≡◌, ◌++◌}
use Rattle.std.specs.List.{flat_map, range_with_len}
use Rattle.tv_tvs.specs.Rows.{listed_name}
use Rattle.tv_tvs.proofs.write.put_names.Given as goal

abbrev pub invariant-loop-u : goal.invariant-loop-u
invariant-loop-u l = l.out ≡ l.initial.out ++ flat_map listed_name (range_with_len 0 l.u)
