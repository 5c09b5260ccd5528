use Rattle.std.proofs.Common.{◌≡◌}
use Rattle.std.specs.List.{flat_map, range_with_len}
use Rattle.tv_structure_form.specs.StructureForm.{value_at}
use Rattle.tv_complete_text.specs.Lines.{listed_row}
use Rattle.tv_complete_text.specs.Named.{named_form}
use Rattle.tv_complete_text.proofs.lines.Completed.pairs.Given as goal

-- the first individuals so far
abbrev pub invariant-loop-u : goal.invariant-loop-u
invariant-loop-u l = l.out.items ≡ flat_map
    (listed_row (named_form l.self.bytes.now l.self.named.now).individuals (value_at l.self.t.now l.p.0)
    l.self.t.now.size)
    (range_with_len 0 l.u)
