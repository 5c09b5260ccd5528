use Rattle.std.proofs.Common.{subst, sym}
use Rattle.tv_struct.specs.LayoutForm.{IsLayout}
use Rattle.tv_struct.proofs.HeldLaws.{IsTable-held}
use Rattle.tv_struct.proofs.planes.Planes.copied.Goals as goal

pub returns-clause-kept : goal.returns-clause-kept
returns-clause-kept c =
    IsTable-held c.in_ok-copied.field-0 c.in_ok-copied-2.field-0.words
    (subst IsLayout (sym c.in_ok-copied.ensures) c.self.invariant.table.layout)
