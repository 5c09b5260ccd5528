use Rattle.std.proofs.Common.{◌≡◌, ◌++◌, ◌*◌}
use Rattle.std.specs.Prelude.{slice_index_or}
use Rattle.std.specs.List.{flat_map, range_with_len}
use Rattle.tv_kleene.specs.declared.K3.TheVariants.{No}
use Rattle.tv_struct.specs.StructureRows.{row_at}
use Rattle.tv_tvs.specs.Rows.{behind, pair_prefix}
use Rattle.tv_tvs.proofs.write.put_pairs.Given as goal

abbrev pub invariant-loop-chunk : goal.invariant-loop-chunk
invariant-loop-chunk l =
    l.out ≡ l.initial.out
    ++ flat_map (λ v. behind (pair_prefix l.u) v (slice_index_or (row_at l.s l.p.0 l.u) v No)) (range_with_len 0 (64 * l.chunk))
