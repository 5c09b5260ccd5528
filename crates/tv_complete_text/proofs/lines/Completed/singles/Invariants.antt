use Rattle.std.proofs.Common.{◌≡◌}
use Rattle.tv_structure_form.specs.StructureForm.{value_at}
use Rattle.tv_complete_text.specs.Lines.{listed_singles}
use Rattle.tv_complete_text.specs.Named.{named_form}
use Rattle.tv_complete_text.proofs.lines.Completed.singles.Given as goal

-- the individuals so far
abbrev pub invariant-loop-u : goal.invariant-loop-u
invariant-loop-u l = l.out.items
    ≡ listed_singles (named_form l.self.bytes.now l.self.named.now).individuals (value_at l.self.t.now l.p.0) l.u
