use Rattle.std.proofs.Common.{◌≡◌, ap, arith, map, ◌∙◌}
use Rattle.std.specs.List.{range_with_len}
use Rattle.tv_cover.specs.Glance.{profile_near}
use Rattle.tv_cover.proofs.GlanceLaws.{profiles-more}
use Rattle.tv_cover.proofs.glance.glance_of.Goals as goal

pub loop-u-preserved : goal.loop-u-preserved
loop-u-preserved c =
    profiles-more c.args.s.now c.loop-u.u c.loop-u.unary.items c.push.new.self.items c.profile_near.result c.loop-u.invariant
    c.in_ok-push.ensures.items c.profile_near.ensures

pub returns : goal.returns
returns c =
    let all : c.loop-u.unary.items ≡ map (profile_near c.args.s.now) (range_with_len 0 c.args.s.now.size)
    = c.loop-u.invariant
    ∙ ap (λ n. map (profile_near c.args.s.now) (range_with_len 0 n))
    (omega (arith, c.loop-u.auto.u-end, c.loop-u-test.false, c.size-size.ensures.size))
    in λ j. record { nullary = c.nullary_profile-nullary.ensures j; unary = all j }
