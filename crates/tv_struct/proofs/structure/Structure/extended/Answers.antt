use Rattle.std.proofs.Common.{◌+◌, ◌∙◌, ap}
use Rattle.std.specs.List.{range_with_len}
use Rattle.tv_structure_form.specs.TableForm.{TableForm, arities_in}
use Rattle.tv_structure_form.proofs.StructureLaws.{arities_in-drawn}
use Rattle.tv_struct.proofs.structure.Structure.extended.Goals as goal

pub returns-clause-over : goal.returns-clause-over
returns-clause-over c =
    rw (← c.self.view_is)
    (ap (λ (t : TableForm). arities_in t.planes) c.in_ok-extended.ensures.value
    ∙ arities_in-drawn (range_with_len 0 (c.self.inside.table.size + 1)) c.self.inside.table.planes)
