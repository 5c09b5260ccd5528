use Rattle.std.proofs.Common.{◌+◌}
use Rattle.tv_kleene.specs.declared.K3.TheVariants.{No}
use Rattle.tv_cover.specs.Glance.{nullary_value}
use Rattle.tv_cover.proofs.GlanceLaws.{IsProfileTo}
use Rattle.tv_cover.proofs.glance.nullary_profile.Given as goal

abbrev pub invariant-loop-p : goal.invariant-loop-p
invariant-loop-p l = IsProfileTo No (nullary_value l.s) (l.p + 1) l.profile
