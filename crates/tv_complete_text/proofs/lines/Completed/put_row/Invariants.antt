use Rattle.std.proofs.Common.{◌≡◌, ◌++◌}
use Rattle.tv_structure_form.specs.StructureForm.{value_at}
use Rattle.tv_complete_text.specs.Lines.{listed_row}
use Rattle.tv_complete_text.specs.Named.{named_form}
use Rattle.tv_complete_text.proofs.lines.Completed.put_row.Given as goal

-- the second individuals so far
abbrev pub invariant-loop-w : goal.invariant-loop-w
invariant-loop-w l = l.out.items ≡ l.initial.out.items
    ++ listed_row (named_form l.self.bytes.now l.self.named.now).individuals (value_at l.self.t.now l.p.0) l.w l.u
