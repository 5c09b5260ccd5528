use Rattle.std.proofs.Common.{◌≡◌, ◌++◌, map}
use Rattle.std.specs.List.{flat_map, range_with_len}
use Rattle.tv_structure_form.specs.StructureForm.{value_at}
use Rattle.tv_tvs.specs.Canonical.{row_items, item_text}
use Rattle.tv_tvs.specs.Rows.{ended_texts}
use Rattle.tv_tvs.proofs.write.write_pairs.Given as goal

abbrev pub invariant-loop-u : goal.invariant-loop-u
invariant-loop-u l =
    l.out ≡ l.initial.out
    ++ ended_texts (map item_text (flat_map (row_items (value_at l.s l.p.0) l.s.size) (range_with_len 0 l.u)))
