use Rattle.tv_structure_form.specs.StructureForm.{value_at}
use Rattle.tv_focus.proofs.Aims.{before_values, behind_values}
use Rattle.tv_focus.proofs.stage.values_at.Goals as goal

pub returns-in-Before : goal.returns-in-Before
returns-in-Before c =
    rw (
      c.in-Before.is,
      ← before_values (value_at c.args.s.now c.args.p.0) c.in-Before.anchors.items c.args.u,
      ← c.as_slice.ensures.value,
    )
    c.pairs.ensures

pub returns-in-Behind : goal.returns-in-Behind
returns-in-Behind c =
    rw (
      c.in-Behind.is,
      ← behind_values (value_at c.args.s.now c.args.p.0) c.in-Behind.anchors.items c.args.u,
      ← c.as_slice-in-Behind.ensures.value,
    )
    c.pairs-in-Behind.ensures
