use Rattle.std.proofs.Common.{arith}
use Rattle.tv_kleene.specs.declared.K3.TheVariants.{No}
use Rattle.tv_cover.specs.Glance.{nullary_value}
use Rattle.tv_cover.proofs.GlanceLaws.{profile-begun, profile-more, profile-all, absent-nullary}
use Rattle.tv_cover.proofs.glance.nullary_profile.Goals as goal

pub loop-p-init : goal.loop-p-init
loop-p-init c = profile-begun (nullary_value c.args.s.now) c.of_no-profile.result c.of_no-profile.ensures

pub loop-p-preserved : goal.loop-p-preserved
loop-p-preserved c =
    profile-more No (nullary_value c.args.s.now) c.loop-p.p c.loop-p.profile c.put.new.self c.value_or_no.result
    c.loop-p.invariant (omega (arith, c.loop-p-test.true, c.min-p-end.ensures)) c.put.ensures c.value_or_no.ensures

pub returns : goal.returns
returns c =
    profile-all No (nullary_value c.args.s.now) c.loop-p.p c.loop-p.profile c.loop-p.invariant
    (λ pred past lt.
    absent-nullary c.args.s.now pred
    (omega (arith, c.loop-p-test.false, c.min-p-end.ensures, c.pred_count.ensures, past, lt)))
