use Rattle.std.proofs.Common.{◌∙◌, ap}
use Rattle.tv_structure_form.specs.StructureForm.{value_at}
use Rattle.tv_focus_laws.specs.Counts.{halves}
use Rattle.tv_focus.proofs.Aims.{before_values, behind_values}
use Rattle.tv_focus.proofs.count.halves_at.Goals as goal

pub returns-in-Before : goal.returns-in-Before
returns-in-Before c =
    rw (c.in-Before.is)
    (c.pair_halves.ensures.value
    ∙ rw (c.as_slice.ensures.value) (ap halves (before_values (value_at c.args.s.now c.args.p.0) c.in-Before.anchors.items c.args.u)))

pub returns-in-Behind : goal.returns-in-Behind
returns-in-Behind c =
    rw (c.in-Behind.is)
    (c.pair_halves-in-Behind.ensures.value
    ∙ rw (c.as_slice-in-Behind.ensures.value) (ap halves (behind_values (value_at c.args.s.now c.args.p.0) c.in-Behind.anchors.items c.args.u)))
