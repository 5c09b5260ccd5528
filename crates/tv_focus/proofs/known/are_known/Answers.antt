use Rattle.tv_structure_form.specs.StructureForm.{value_at}
use Rattle.tv_focus.proofs.Aims.{before_values, behind_values}
use Rattle.tv_focus.proofs.Lines.{alone-known}
use Rattle.tv_focus.proofs.known.are_known.Goals as goal

pub returns-in-Alone : goal.returns-in-Alone
returns-in-Alone c holds u lt =
    rw (c.in-Alone.is)
    (alone-known c.args.s.now c.args.p.0 u c.unary_row.result c.unary_row.ensures lt (c.is_definite.ensures holds))

pub returns-in-Before : goal.returns-in-Before
returns-in-Before c holds u lt =
    rw (
      c.in-Before.is,
      ← before_values (value_at c.args.s.now c.args.p.0) c.in-Before.anchors.items u,
      ← c.as_slice.ensures.value,
    )
    (c.are_pairs_known.ensures holds u lt)

pub returns-in-Behind : goal.returns-in-Behind
returns-in-Behind c holds u lt =
    rw (
      c.in-Behind.is,
      ← behind_values (value_at c.args.s.now c.args.p.0) c.in-Behind.anchors.items u,
      ← c.as_slice-in-Behind.ensures.value,
    )
    (c.are_pairs_known-in-Behind.ensures holds u lt)
