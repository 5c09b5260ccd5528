use Rattle.std.proofs.Common.{◌∙◌, ap}
use Rattle.tv_structure_form.specs.TableForm.{TableForm, arities_in}
use Rattle.tv_structure_form.proofs.StructureLaws.{arities_in-drawn}
use Rattle.tv_struct.proofs.structure.Structure.drawn.Goals as goal

pub returns-clause-over : goal.returns-clause-over
returns-clause-over c =
    rw (← c.self.view_is)
    (ap (λ (t : TableForm). arities_in t.planes) c.in_ok-drawn.ensures.value
    ∙ arities_in-drawn c.in_ok-drawing.drawing.origins c.self.inside.table.planes)
