use Rattle.std.proofs.Common.{◌≡◌, ◌++◌, ◌*◌, []}
use Rattle.std.specs.Prelude.{slice_index_or}
use Rattle.std.specs.List.{flat_map, range_with_len}
use Rattle.tv_kleene.specs.declared.K3.TheVariants.{No}
use Rattle.tv_struct.specs.StructureRows.{unary_row}
use Rattle.tv_tvs.specs.Rows.{behind}
use Rattle.tv_tvs.proofs.write.put_unary.Given as goal

abbrev pub invariant-loop-chunk : goal.invariant-loop-chunk
invariant-loop-chunk l =
    l.out ≡ l.initial.out
    ++ flat_map (λ v. behind [] v (slice_index_or (unary_row l.s l.p.0) v No)) (range_with_len 0 (64 * l.chunk))
