use Rattle.std.proofs.Common.{◌+◌}
use Rattle.tv_structure_form.specs.StructureForm.{summary_at}
use Rattle.tv_struct.specs.StructureRows.{flag_value}
use Rattle.tv_cover.specs.Glance.{value_near}
use Rattle.tv_cover.proofs.GlanceLaws.{IsProfileTo}
use Rattle.tv_cover.proofs.glance.profile_near.Given as goal

abbrev pub invariant-loop-p : goal.invariant-loop-p
invariant-loop-p l = IsProfileTo (flag_value (summary_at l.s l.u)) (value_near l.s l.u) (l.p + 1) l.profile
